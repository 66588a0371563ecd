-- A float that is at least zero is its fraction: what a quantity answers, and what a comparison with a literal says of it.
-- By cases on the float. Of those with a minus sign only zero is at least zero.
use mathlib.Core.Path.{◌≡◌, refl, sym, ◌∙◌, subst}
use mathlib.Core.Logic.{inl, inr}
use Prim.Native.Nat.{ℕ, ◌*◌, ◌≤◌, ◌<◌}
use native.Mathlib.Nat.{eq-zero-or-pos, eq-or-lt_of_le, le_of_lt, le_of_eq, mul-pos, mul_comm, zero-mul, mul-zero, zero-add}
use native.Mathlib.Omega.{arith}
use mathlib.Core.Bool.{Bool, true, false, not, ◌&&◌, ◌||◌, cond, true≢false, false≢true}
use lib.IntN.{ℤ, pos}
use lib.Dec.{T, leb, ltb, eqb, eqb→eq}
use lib.Ieee.{Float, nan, inf, fin, up, down, le, lt, is_nan}
use lib.Ieee.Digits.{Equals}
use lib.Ieee.Fits.{up_pos, down_pos, and_l}
use borrow.Author.Tests.{lt-ltb, le-ltb, le-leb, eq-eqb, ne_eqb, leb-true, leb-false}
use Rattle.reading.specs.Number.{quantity}

abbrev pub zero : Float
zero = fin false 0 (pos 0)

-- `<=` of floats is `<` or `==`: of whole numbers one test
or_leb : (a b : ℕ) → (ltb a b || (eqb a b && true)) ≡ leb a b
or_leb a b = go (leb a b) refl
  where
    differ : b < a → a ≡ b → ⊥
    differ h e = omega arith

    go : (t : Bool) → leb a b ≡ t → (ltb a b || (eqb a b && true)) ≡ leb a b
    go true h = elim (eq-or-lt_of_le (leb-true a b h)) [
      | inl e ↦ simp (le-ltb a b (le_of_eq (sym e)), eq-eqb a b e, h)
      | inr l ↦ simp (lt-ltb a b l, h)
    ]
    go false h = simp (le-ltb a b (le_of_lt (leb-false a b h)), ne_eqb a b (differ (leb-false a b h)), h)

minus_zero : (m : ℕ) (e : ℤ) → le zero (fin true m e) ≡ true → m ≡ 0
unfolding le
minus_zero m e h =
    let a = 0 * down e in
    let b = m * up e * 1 in
    let q : a ≡ b = eqb→eq a b (and_l (eqb a b) (eqb a 0) (subst T (sym h) tt)) in
    elim (eq-zero-or-pos m) [
      | inl z ↦ z
      | inr p ↦ absurd (none (m * up e) (down e) (mul-pos p (up_pos e)) q)
    ]
  where
    none : (k d : ℕ) → 0 < k → 0 * d ≡ k * 1 → ⊥
    none k d p q = omega arith

-- ---- what `x >= 0.0` says
pub not_nan : (x : Float) → le zero x ≡ true → T (not (is_nan x))
unfolding le is_nan
not_nan nan h = absurd (false≢true h)
not_nan (inf s) h = tt
not_nan (fin s m e) h = tt

pub refused : {A : Type 0} (r : A) (f : ℕ → ℕ → A) (x : Float) → le zero x ≡ false → quantity r f x ≡ r
unfolding quantity le
refused r f nan h = refl
refused r f (inf s) h = refl
refused r f (fin true m e) h = elim (eq-zero-or-pos m) [
  | inl z ↦ absurd (true≢false (sym (zero_is z) ∙ h))
  | inr p ↦ simp (lt-ltb 0 m p)
]
  where
    zero_is : m ≡ 0 → le zero (fin true m e) ≡ true
    zero_is z = simp (z, zero-mul)
refused r f (fin false m e) h =
    absurd (true≢false (sym (or_leb (0 * down e) (m * up e * 1) ∙ le-leb (0 * down e) (m * up e * 1) (least (down e) (m * up e))) ∙ h))
  where
    least : (d k : ℕ) → 0 * d ≤ k * 1
    least d k = omega arith

pub taken : {A : Type 0} (r : A) (f : ℕ → ℕ → A) (s : Bool) (m : ℕ) (e : ℤ) → le zero (fin s m e) ≡ true
    → quantity r f (fin s m e) ≡ f (m * up e) (down e)
unfolding quantity
taken r f true m e h = simp (le-ltb 0 m (le_of_eq (minus_zero m e h)))
taken r f false m e h = refl

-- ---- what a comparison with n * 2 ^ d says where `x >= 0.0` holds: of x = a / c that a / c is below it
pub lt_is : (x : Float) (n : ℕ) (d : ℤ) → le zero x ≡ true → lt x (fin false n d) ≡ quantity false (λ a c. ltb (down d * a) (n * up d * c)) x
unfolding quantity lt le
lt_is nan n d h = refl
lt_is (inf true) n d h = absurd (false≢true h)
lt_is (inf false) n d h = refl
lt_is (fin true m e) n d h = simp (minus_zero m e h, zero-mul, mul-zero, zero-add)
lt_is (fin false m e) n d h = rw (mul_comm (down d) (m * up e))

pub le_is : (x : Float) (n : ℕ) (d : ℤ) → le zero x ≡ true → le x (fin false n d) ≡ quantity false (λ a c. leb (down d * a) (n * up d * c)) x
unfolding quantity le
le_is nan n d h = refl
le_is (inf true) n d h = absurd (false≢true h)
le_is (inf false) n d h = refl
le_is (fin true m e) n d h = simp (minus_zero m e h, zero-mul, mul-zero, zero-add) (or_leb 0 (n * up d * down e))
le_is (fin false m e) n d h = rw (mul_comm (down d) (m * up e)) (or_leb (m * up e * down d) (n * up d * down e))

-- ---- what holds of the refusal and of each fraction's answer holds of every float's
pub quantity_has : {A : Type 0} (P : A → Type 0) (r : A) (f : ℕ → ℕ → A) → P r → ((n d : ℕ) → P (f n d))
    → (x : Float) → P (quantity r f x)
unfolding quantity
quantity_has P r f p q nan = p
quantity_has P r f p q (inf s) = p
quantity_has P r f p q (fin s m e) = go (s && ltb 0 m)
  where
    go : (t : Bool) → P (cond t r (f (m * up e) (down e)))
    go true = p
    go false = q (m * up e) (down e)

-- ---- an f that goes by the value of its fraction may be asked at any fraction that x equals
abbrev pub ByValue : {A : Type 0} → (ℕ → ℕ → A) → Type 0
ByValue f = (n d a c : ℕ) → 0 < d → 0 < c → n * c ≡ a * d → f n d ≡ f a c

pub by_value : {A : Type 0} (r : A) (f : ℕ → ℕ → A) → ByValue f
    → (x : Float) (a c : ℕ) → 0 < c → le zero x ≡ true → Equals x a c → quantity r f x ≡ f a c
by_value r f same nan a c p h v = absurd v
by_value r f same (inf s) a c p h v = absurd v
by_value r f same (fin s m e) a c p h v = taken r f s m e h ∙ same (m * up e) (down e) a c (down_pos e) p v
