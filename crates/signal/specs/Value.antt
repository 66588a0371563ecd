-- Step 5, by request 2: the curve's value at E is the largest w with 5·w² ≤ max(5·T², 5·V0² − r·E).
use Rattle.std.specs.Prelude.{ℕ, zero, suc, ◌+◌, ◌-◌, ◌*◌, ◌/◌, ◌≤◌, ◌<◌, max, cond, leb}
use Rattle.card.specs.declared.Card.{Card}
use Rattle.signal.specs.declared.Curve.{Curve}

abbrev pub five_squares : ℕ → ℕ
five_squares w = 5 * (w * w)

-- w is the largest with 5·w² ≤ bound: it fits, the next does not
pub record Largest (bound w : ℕ) : Type 0 where
  pub fits : five_squares w ≤ bound
  pub next_does_not : bound < five_squares (w + 1)

unfoldable pub curve_bound : Card → Curve → ℕ → ℕ → ℕ
curve_bound card curve t driven = max (five_squares t) (five_squares curve.start - card.deceleration * driven)

-- the next w, if it fits
abbrev pub next_if_fits : ℕ → ℕ → ℕ
next_if_fits bound w = cond (leb (five_squares (w + 1)) bound) (w + 1) w

-- the largest w of so many binary digits: twice the one of a digit fewer for a quarter of the bound, or the next above that
unfoldable pub largest_of : ℕ → ℕ → ℕ
largest_of zero bound = 0
largest_of (suc digits) bound = next_if_fits bound (2 * largest_of digits (bound / 4))

-- the curve's value at E: `Largest` for every speed in range (`value_largest`, proofs/Value.antt), found by digits so that whole drives compute
unfoldable pub curve_value : Card → Curve → ℕ → ℕ → ℕ
curve_value card curve t driven = largest_of 12 (curve_bound card curve t driven)
