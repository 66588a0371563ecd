-- The fraction that an f32's bits stand for, and what a quantity answers there: a law for each range of the exponent's bits.
-- Reading back the written bits gives the float (`of_bits-to_bits`), and `odd_val` says which fraction that is.
use mathlib.Core.Path.{◌≡◌, refl, sym, ap, ◌∙◌, subst}
use Prim.Native.Nat.{ℕ, zero, suc, ◌+◌, ◌-◌, ◌*◌, ◌/◌, ◌%◌, ◌^◌, ◌≤◌, ◌<◌}
use native.Mathlib.Nat.{mul_assoc, mul-le-mul}
use native.Mathlib.Omega.{arith}
use mathlib.Core.Bool.{Bool, true, false, not, cond, false≢true}
use lib.Dec.{T, eqb, leb}
use lib.Pow.{pow-add, pow_pos, pow_mono}
use lib.Ieee.{Float, nan, inf, fin, binary32, of_fields, of_bits, to_bits, div, fits, le, is_nan, nan_bits}
use lib.Ieee.Bits.{of_bits-to_bits, nan_bits_is, nan_bits_above}
use lib.Ieee.Digits.{Equals, odd_val}
use borrow.Author.Tests.{ne_eqb, lt-ltb, le-ltb}
use Rattle.reading.specs.Number.{quantity}
use Rattle.reading.proofs.Number.{zero as +0, ByValue, by_value}

abbrev pub bits : Float → ℕ
bits x = to_bits binary32 x

-- the exponent's bits, and the digits: with the leading one, which an exponent of 0 has not
abbrev pub exponent : ℕ → ℕ
exponent b = b % 2147483648 / 8388608

abbrev pub digits : ℕ → ℕ → ℕ
digits zero t = t
digits (suc f) t = 8388608 + t

-- the number in units of 2 ^ -149
abbrev pub units : ℕ → ℕ
units b = digits (exponent b) (b % 8388608) * 2 ^ (exponent b - 1)

-- ---- the size of the digits and of the units
digits_are : (f t : ℕ) → 0 < f → digits f t ≡ 8388608 + t
digits_are zero t h = absurd (no h)
  where
    no : 0 < 0 → ⊥
    no h = omega arith
digits_are (suc f) t h = refl

digits_most_lem : (f t : ℕ) → t < 8388608 → digits f t ≤ 16777216
digits_most_lem zero t h = omega arith
digits_most_lem (suc f) t h = omega arith

pub units_most : (b k : ℕ) → exponent b ≤ k → units b ≤ 16777216 * 2 ^ (k - 1)
units_most b k h = mul-le-mul (digits_most_lem (exponent b) (b % 8388608) (omega arith)) (pow_mono (less (exponent b) h))
  where
    less : (f : ℕ) → f ≤ k → f - 1 ≤ k - 1
    less f h = omega arith

pub units_least : (b k : ℕ) → 0 < k → k ≤ exponent b → 8388608 * 2 ^ (k - 1) ≤ units b
units_least b k p h = mul-le-mul (omega (arith, digits_are (exponent b) (b % 8388608) (omega arith))) (pow_mono (less (exponent b) h))
  where
    less : (f : ℕ) → k ≤ f → k - 1 ≤ f - 1
    less f h = omega arith

-- ---- what the fields are read as
number : (s : Bool) (f t : ℕ) → f < 255 → Equals (of_fields binary32 s f t) (digits f t * 2 ^ (f - 1)) (2 ^ 149)
unfolding of_fields
number s zero t h = odd_val 24 s t 0 149
number s (suc f) t h = rw (ne_eqb (suc f) 255 (differ f h), less f) (odd_val 24 s (8388608 + t) f 149)
  where
    differ : (f : ℕ) → suc f < 255 → suc f ≡ 255 → ⊥
    differ f h e = omega arith

    less : (f : ℕ) → suc f - 1 ≡ f
    less f = omega arith

no_number : {A : Type 0} (r : A) (g : ℕ → ℕ → A) (s : Bool) (f t : ℕ) → f ≡ 255 → quantity r g (of_fields binary32 s f t) ≡ r
unfolding of_fields quantity
no_number r g s f t e = rw e (either (eqb t 0))
  where
    either : (z : Bool) → quantity r g (cond z (inf s) nan) ≡ r
    either true = refl
    either false = refl

-- ---- a quantity's answer, by the exponent of x's bits
module _ {A : Type 0} (r : A) (f : ℕ → ℕ → A) (x : Float) (k : T (fits binary32 x)) where
  -- 255: an infinity or a NaN
  pub at_ones : exponent (bits x) ≡ 255 → quantity r f x ≡ r
  unfolding of_bits
  at_ones e =
      let b = bits x in
      ap (quantity r f) (sym (of_bits-to_bits binary32 x k)) ∙ no_number r f (leb 2147483648 b) (exponent b) (b % 8388608) e

  -- below 255
  pub at_units : ByValue f → le +0 x ≡ true → exponent (bits x) < 255 → quantity r f x ≡ f (units (bits x)) (2 ^ 149)
  unfolding of_bits
  at_units same h l =
      let b = bits x in
      by_value r f same x (units b) (2 ^ 149) (pow_pos 149) h
      (subst (λ (y : Float). Equals y (units b) (2 ^ 149)) (of_bits-to_bits binary32 x k) (number (leb 2147483648 b) (exponent b) (b % 8388608) l))

  -- 1 to 150: the units and 2 ^ 149 have the factor 2 ^ (exponent - 1) in common
  pub at_digits : ByValue f → le +0 x ≡ true → 0 < exponent (bits x) → exponent (bits x) ≤ 150
      → quantity r f x ≡ f (8388608 + bits x % 8388608) (2 ^ (150 - exponent (bits x)))
  at_digits same h l u =
      let b = bits x in
      let j = exponent b in
      let q = 8388608 + b % 8388608 in
      at_units same h (omega arith)
      ∙ rw (digits_are j (b % 8388608) l)
      (same (q * 2 ^ (j - 1)) (2 ^ 149) q (2 ^ (150 - j)) (pow_pos 149) (pow_pos (150 - j))
      (mul_assoc q (2 ^ (j - 1)) (2 ^ (150 - j)) ∙ ap (λ (n : ℕ). q * n) (sym (pow-add 2 (j - 1) (150 - j)) ∙ ap (λ (n : ℕ). 2 ^ n) (whole j l u))))
    where
      whole : (j : ℕ) → 0 < j → j ≤ 150 → j - 1 + (150 - j) ≡ 149
      whole j l u = omega arith

-- ---- the patterns of a NaN, by one comparison
pub nan_at : (b : ℕ) → 2139095040 < b % 2147483648 → nan ≡ of_bits binary32 b
unfolding is_nan
nan_at b h = go (of_bits binary32 b) (sym (nan_bits_is binary32 b) ∙ nan_bits_above binary32 b ∙ lt-ltb 2139095040 (b % 2147483648) h)
  where
    go : (x : Float) → is_nan x ≡ true → nan ≡ x
    go nan h = refl
    go (inf s) h = absurd (false≢true h)
    go (fin s m e) h = absurd (false≢true h)

-- 0 / 0, by which the code makes a NaN
pub nan_made_at : (b : ℕ) → 2139095040 < b % 2147483648 → div binary32 (of_bits binary32 0) (of_bits binary32 0) ≡ of_bits binary32 b
unfolding of_bits div
nan_made_at b h = nan_at b h

pub no_nan_at : (b : ℕ) → b % 2147483648 ≤ 2139095040 → T (not (nan_bits binary32 b))
no_nan_at b h = rw (nan_bits_above binary32 b, le-ltb 2139095040 (b % 2147483648) h) tt
