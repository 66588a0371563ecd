-- The bounds of what a reading answers, whatever the float: v is at most 2500, a band at most 2.
-- By cases on each test of the definitions.
use mathlib.Core.Path.{◌≡◌, refl}
use Prim.Native.Nat.{ℕ, ◌≤◌, ◌*◌}
use native.Mathlib.Omega.{arith}
use mathlib.Core.Bool.{Bool, true, false, cond}
use lib.Dec.{leb, ltb}
use lib.Ieee.{Float}
use borrow.Author.Tests.{leb-true}
use Rattle.std.proofs.Common.{Result, Ok, Err}
use Rattle.refusal.specs.Number.{value_of}
use Rattle.refusal.specs.declared.Refusal.{Refusal}
use Rattle.refusal.specs.declared.Refusal.TheVariants.{BadSpeed, BadPressure}
use Rattle.reading.specs.Speed.{top_speed, rounded, speed_at, speed_of}
use Rattle.reading.specs.Pressure.{top_band, band_at, pressure_at, pressure_of}
use Rattle.reading.proofs.Number.{quantity_has}

-- what holds of the refusal and of each answer in range holds of what is read from every float
pub speed_has : (P : Result ℕ Refusal → Type 0) → P (Err BadSpeed) → ((v : ℕ) → v ≤ top_speed → P (Ok v)) → (x : Float) → P (speed_of x)
unfolding speed_of speed_at
speed_has P bad good x = quantity_has P (Err BadSpeed) speed_at bad (λ n d. go (rounded n d) (leb (rounded n d) top_speed) refl) x
  where
    go : (v : ℕ) (t : Bool) → leb v top_speed ≡ t → P (cond t (Ok v) (Err BadSpeed))
    go v true h = good v (leb-true v top_speed h)
    go v false h = bad

pub pressure_has : (P : Result ℕ Refusal → Type 0) → P (Err BadPressure) → ((b : ℕ) → b ≤ top_band → P (Ok b)) → (x : Float) → P (pressure_of x)
unfolding pressure_of pressure_at band_at
pressure_has P bad good x =
    quantity_has P (Err BadPressure) pressure_at bad (λ n d. go (leb n (10 * d)) (ltb (2 * n) (7 * d)) (ltb (2 * n) (9 * d))) x
  where
    go : (t a b : Bool) → P (cond t (Ok (cond a 0 (cond b 1 top_band))) (Err BadPressure))
    go false a b = bad
    go true true b = good 0 (omega arith)
    go true false true = good 1 (omega arith)
    go true false false = good 2 (omega arith)

pub speed_value_most : (x : Float) → value_of 0 (speed_of x) ≤ top_speed
unfolding value_of
speed_value_most = speed_has (λ r. value_of 0 r ≤ top_speed) (omega arith) (λ v h. h)

pub pressure_band_most : (x : Float) → value_of 0 (pressure_of x) ≤ top_band
unfolding value_of
pressure_band_most = pressure_has (λ r. value_of 0 r ≤ top_band) (omega arith) (λ b h. h)
