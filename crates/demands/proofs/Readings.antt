-- A sample's floats: v is the floor of 36x + 1/2 and the band that of the bar, exactly; 1 and 2 are given for the paper's reasons.
-- By cases on the float, and by the laws of division. Assumes nothing.
use Prim.Native.Nat.{ℕ, ◌+◌, ◌*◌, ◌≤◌, ◌<◌}
use native.Mathlib.Nat.{mul_comm, div-mul-le_self, div-lt_iff_lt-mul, lt_of_mul-lt-mul_left}
use native.Mathlib.Omega.{arith}
use mathlib.Core.Path.{◌≡◌, refl, sym, ◌∙◌}
use mathlib.Core.Bool.{Bool, true, false, ◌&&◌, cond, true≢false}
use mathlib.Core.Logic.{◌⊎◌, inl, inr, ⊎_elim}
use lib.Dec.{leb, ltb}
use lib.Ieee.{Float, nan, inf, fin, up, down}
use lib.Ieee.Fits.{down_pos}
use borrow.Author.Tests.{leb-true, leb-false, ltb-true, ltb-false, lt-ltb}
use Rattle.numbers.proofs.Tests.{and_iff}
use Rattle.reading.specs.Number.{quantity}
use Rattle.std.proofs.Common.{Result, Ok, Err}
use Rattle.refusal.specs.declared.Refusal.{Refusal}
use Rattle.refusal.specs.declared.Refusal.TheVariants.{BadSpeed as Fast, BadPressure as Outside}
use Rattle.refusal.specs.Number.{number, number_of, value_of}
use Rattle.reading.specs.Speed.{rounded, speed_at, speed_of}
use Rattle.reading.specs.Pressure.{band_at, pressure_at, pressure_of}
use Rattle.demands.specs.Reasons.{none, reason, FloorOf, SpeedIs, BadSpeed, BadPressure, BandOf, BandIs}
use Rattle.demands.proofs.Exactly.{First}

-- ---- the floor
floor_is : (n d : ℕ) → 0 < d → FloorOf n d (rounded n d)
floor_is n d p = (
  rw (mul_comm (2 * d) (rounded n d)) (div-mul-le_self (72 * n + d) (2 * d)),
  rw (mul_comm (2 * d) (rounded n d + 1)) ((div-lt_iff_lt-mul {k = 2 * d} {x = 72 * n + d} {y = rounded n d + 1} (omega arith)).0 (omega arith)),
)

floor_most : (n d v w : ℕ) → FloorOf n d v → FloorOf n d w → v ≤ w
floor_most n d v w a b = let l : v < w + 1 = lt_of_mul-lt-mul_left (2 * d) (omega arith) in omega arith

-- ---- below zero
abbrev below : Bool → ℕ → Bool
below minus m = minus && ltb 0 m

below_is : (minus : Bool) (m : ℕ) → below minus m ≡ true → (minus ≡ true) × (0 < m)
below_is minus m e = let b = (and_iff minus (ltb 0 m)).0 e in (b.0, ltb-true 0 m b.1)

not_below : (minus : Bool) (m : ℕ) → below minus m ≡ false → (minus ≡ true) × (0 < m) → ⊥
not_below minus m e h = true≢false (sym ((and_iff minus (ltb 0 m)).1 (h.0, lt-ltb 0 m h.1)) ∙ e)

-- ---- a finite float, which is ± n / d
module _ (minus : Bool) (m n d : ℕ) (p : 0 < d) where
  abbrev Below : Type 0
  Below = (minus ≡ true) × (0 < m)

  speed_by : (b : Bool) → below minus m ≡ b → (t : Bool) → leb (rounded n d) 2500 ≡ t
      → (s : Result ℕ Refusal) → s ≡ cond b (Err Fast) (cond t (Ok (rounded n d)) (Err Fast))
      → First (number_of s) (reason 1 (Below ⊎ ((v : ℕ) × (2500 < v) × FloorOf n d v)) none)
      × (number_of s ≡ 0 → FloorOf n d (value_of 0 s))
  unfolding First number number_of value_of
  speed_by true e t q s is = rw is (inl (inl (below_is minus m e), refl), λ z. absurd (omega arith))
  speed_by false e false q s is = rw is (inl (inr (rounded n d, leb-false _ _ q, floor_is n d p), refl), λ z. absurd (omega arith))
  speed_by false e true q s is =
      let f = floor_is n d p in
      let l = leb-true (rounded n d) 2500 q in
      let fast : ((v : ℕ) × (2500 < v) × FloorOf n d v) → ⊥ =
      λ h. let u = floor_most n d h.0 (rounded n d) h.2 f in let g = h.1 in omega arith in
      rw is (inr (⊎_elim (not_below minus m e) fast, refl), λ z. f)

  pressure_by : (b : Bool) → below minus m ≡ b → (t : Bool) → leb n (10 * d) ≡ t
      → (s : Result ℕ Refusal) → s ≡ cond b (Err Outside) (cond t (Ok (band_at n d)) (Err Outside))
      → First (number_of s) (reason 2 (Below ⊎ (10 * d < n)) none) × (number_of s ≡ 0 → BandOf n d (value_of 0 s))
  unfolding First number number_of value_of band_at
  pressure_by true e t q s is = rw is (inl (inl (below_is minus m e), refl), λ z. absurd (omega arith))
  pressure_by false e false q s is = rw is (inl (inr (leb-false _ _ q), refl), λ z. absurd (omega arith))
  pressure_by false e true q s is =
      let l = leb-true n (10 * d) q in
      let high : 10 * d < n → ⊥ = λ h. omega arith in
      rw is (inr (⊎_elim (not_below minus m e) high, refl), λ z. band_by (ltb (2 * n) (7 * d)) refl (ltb (2 * n) (9 * d)) refl)
    where
      band_by : (a : Bool) → ltb (2 * n) (7 * d) ≡ a → (b : Bool) → ltb (2 * n) (9 * d) ≡ b → BandOf n d (cond a 0 (cond b 1 2))
      band_by true e b f = inl (refl, ltb-true _ _ e)
      band_by false e true f = inr (inl (refl, ltb-false _ _ e, ltb-true _ _ f))
      band_by false e false f = inr (inr (refl, ltb-false _ _ f))

-- ---- any float
pub speed_first : (x : Float) → First (number_of (speed_of x)) (reason 1 (BadSpeed x) none)
    × (number_of (speed_of x) ≡ 0 → SpeedIs x (value_of 0 (speed_of x)))
unfolding First number number_of speed_of quantity speed_at BadSpeed SpeedIs
speed_first nan = (inl (tt, refl), λ z. absurd (omega arith))
speed_first (inf minus) = (inl (tt, refl), λ z. absurd (omega arith))
speed_first (fin minus m e) = speed_by minus m (m * up e) (down e) (down_pos e) (below minus m) refl (leb (rounded (m * up e) (down e)) 2500) refl _ refl

pub pressure_first : (x : Float) → First (number_of (pressure_of x)) (reason 2 (BadPressure x) none)
    × (number_of (pressure_of x) ≡ 0 → BandIs x (value_of 0 (pressure_of x)))
unfolding First number number_of pressure_of quantity pressure_at BadPressure BandIs
pressure_first nan = (inl (tt, refl), λ z. absurd (omega arith))
pressure_first (inf minus) = (inl (tt, refl), λ z. absurd (omega arith))
pressure_first (fin minus m e) = pressure_by minus m (m * up e) (down e) (down_pos e) (below minus m) refl (leb (m * up e) (10 * down e)) refl _ refl
