-- D by squares: v exceeds the curve's value by more than the tolerance exactly when 5·(v − tolerance)² is above the bound.
-- From the law of a largest w (`above_by_squares`). Assumes nothing.
use Prim.Native.Nat.{ℕ, ◌+◌, ◌-◌, ◌≤◌, ◌<◌}
use mathlib.Core.Path.{◌≡◌, sym, ◌∙◌}
use mathlib.Core.Bool.{false}
use mathlib.Core.Logic.{⊎_elim}
use native.Mathlib.Omega.{arith}
use borrow.Author.Tests.{lt-ltb, le-ltb}
use lib.Dec.{ltb}
use Rattle.numbers.proofs.Tests.{le_or_lt}
use Rattle.reading.specs.Speed.{top_speed}
use Rattle.card.specs.declared.Card.{Card}
use Rattle.signal.specs.declared.Curve.{Curve}
use Rattle.signal.specs.Ranges.{CurveRanges}
use Rattle.signal.specs.Value.{five_squares, curve_bound, curve_value}
use Rattle.signal.proofs.Value.{above_by_squares, value_largest}
use Rattle.onetime.specs.OneTime.{exceeds}

-- what is added on one side is taken off on the other
moved : (x more v : ℕ) → more < v → ltb (x + more) v ≡ ltb x (v - more)
moved x more v p =
    ⊎_elim
    (λ q. le-ltb (x + more) v q ∙ sym (le-ltb x (v - more) (omega arith)))
    (λ q. lt-ltb (x + more) v q ∙ sym (lt-ltb x (v - more) (omega arith)))
    (le_or_lt v (x + more))

module _ (card : Card) (curve : Curve) (t v driven : ℕ) where
  pub exceeds_by_squares : CurveRanges curve → t ≤ top_speed → card.tolerance < v
      → exceeds card curve t v driven ≡ ltb (curve_bound card curve t driven) (five_squares (v - card.tolerance))
  unfolding exceeds
  exceeds_by_squares good t_most p =
      moved (curve_value card curve t driven) card.tolerance v p
      ∙ above_by_squares (value_largest card curve t driven good t_most) (v - card.tolerance)

  -- no speed within the tolerance exceeds anything
  pub slow_never : v ≤ card.tolerance → exceeds card curve t v driven ≡ false
  unfolding exceeds
  slow_never p = le-ltb (curve_value card curve t driven + card.tolerance) v (omega arith)
