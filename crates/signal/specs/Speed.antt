-- Step 6: the signal speed.
use Rattle.std.specs.Prelude.{ℕ, Bool, cond, ltb}
use Rattle.card.specs.declared.Card.{Card}
use Rattle.signal.specs.declared.Curve.{Curve}
use Rattle.signal.specs.Value.{curve_value}

-- a curve runs
abbrev pub curve_runs : Curve → Bool
curve_runs curve = ltb 0 curve.start

-- MAN is on
abbrev pub man_on : ℕ → Bool
man_on man = ltb 0 man

-- M under MAN, the curve's value under a curve, else T
unfoldable pub signal_speed : Card → Curve → ℕ → ℕ → ℕ
signal_speed card curve man t = cond (man_on man) man (cond (curve_runs curve) (curve_value card curve t curve.driven) t)
