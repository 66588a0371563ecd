-- `speed_of` meets its contract: `Patterns` says which fraction x is in each range of its exponent, and `Rounding` what that rounds to.
use mathlib.Core.Path.{◌≡◌, refl, sym, ◌∙◌, subst}
use mathlib.Core.Logic.{inl, inr}
use Prim.Native.Nat.{ℕ, ◌+◌, ◌-◌, ◌*◌, ◌/◌, ◌%◌, ◌^◌, ◌≤◌, ◌<◌}
use native.Mathlib.Nat.{eq-or-lt_of_le, mul-le-mul_left}
use native.Mathlib.Omega.{arith}
use mathlib.Core.Bool.{Bool, true, false, cond}
use lib.Dec.{T, leb}
use lib.Pow.{pow_pos}
use lib.Ieee.{Float, binary32, le, of_bits, fits}
use borrow.Author.Tests.{le-leb, lt-leb}
use Rattle.reading.specs.Speed.{top_speed, speed_at, speed_of}
use Rattle.std.proofs.Common.{Ok, Err}
use Rattle.refusal.specs.declared.Refusal.TheVariants.{BadSpeed}
use Rattle.reading.proofs.Number.{zero, refused}
use Rattle.reading.proofs.Patterns.{bits, exponent, units, units_most, units_least, at_ones, at_units, at_digits}
use Rattle.reading.proofs.Rounding.{speed_by_value, rounded_slow, rounded_fast, rounded_cuts}
use Rattle.reading.proofs.speed_of.Goals as goal

module _ (x : Float) (k : T (fits binary32 x)) (h : le zero x ≡ true) where
  slow : exponent (bits x) < 120 → Ok 0 ≡ speed_of x
  unfolding speed_of speed_at
  slow l =
      let b = bits x in
      let few = mul-le-mul_left 128 (units_most b 119 (omega arith)) in
      sym (at_units _ _ x k speed_by_value h (omega arith) ∙ rw (rounded_slow (units b) (2 ^ 149) (pow_pos 149) few))

  fast : 133 < exponent (bits x) → Err BadSpeed ≡ speed_of x
  unfolding speed_of speed_at
  fast l =
      let b = bits x in
      let w : exponent b ≤ 255 = omega arith in
      elim (eq-or-lt_of_le w) [
        | inl o ↦ sym (at_ones _ _ x k o)
        | inr v ↦
            let many = units_least b 134 (omega arith) (omega arith) in
            sym (at_units _ _ x k speed_by_value h v ∙ rw (lt-leb _ top_speed (rounded_fast (units b) (2 ^ 149) (pow_pos 149) many)))
      ]

  middle : 120 ≤ exponent (bits x) → exponent (bits x) ≤ 133
      → (t : Bool) (v : ℕ) → v ≡ (72 * (8388608 + bits x % 8388608) / 2 ^ (150 - exponent (bits x)) + 1) / 2 → leb v top_speed ≡ t
      → cond t (Ok v) (Err BadSpeed) ≡ speed_of x
  unfolding speed_of speed_at
  middle l u t v e g =
      let b = bits x in
      let j = 150 - exponent b in
      sym (at_digits _ _ x k speed_by_value h (omega arith) (omega arith) ∙ rw (rounded_cuts (8388608 + b % 8388608) (2 ^ j) (pow_pos j), ← e, g))

pub returns-then-exponent-lt120 : goal.returns-then-exponent-lt120
unfolding of_bits
returns-then-exponent-lt120 c = slow _ (subst T (sym c.well_formed.0.1) tt) c.if-x.true c.if-exponent-lt120.true

pub returns-then-exponent-gt133 : goal.returns-then-exponent-gt133
unfolding of_bits
returns-then-exponent-gt133 c = fast _ (subst T (sym c.well_formed.0.1) tt) c.if-x.true c.if-exponent-gt133.true

pub returns-then-v : goal.returns-then-v
unfolding of_bits
returns-then-v c =
    middle _ (subst T (sym c.well_formed.0.1) tt) c.if-x.true c.if-exponent-lt120.false c.if-exponent-gt133.false true _ refl
    (le-leb _ top_speed c.if-v.true)

pub returns-else-v : goal.returns-else-v
unfolding of_bits
returns-else-v c =
    middle _ (subst T (sym c.well_formed.0.1) tt) c.if-x.true c.if-exponent-lt120.false c.if-exponent-gt133.false false _ refl
    (lt-leb _ top_speed c.if-v.false)

pub returns-else-x : goal.returns-else-x
unfolding of_bits speed_of
returns-else-x c = sym (refused _ _ _ c.if-x.false)
