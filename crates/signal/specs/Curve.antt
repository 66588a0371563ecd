-- Step 5: the curve as step 2 leaves it goes on, ends, or gives way to MAN.
use Rattle.std.specs.Prelude.{ℕ, ◌+◌, Bool, not, ◌&&◌, ◌||◌, cond, eqb}
use Rattle.card.specs.declared.Card.{Card}
use Rattle.record.specs.declared.Keys.{Keys}
use Rattle.signal.specs.declared.Curve.{Curve}
use Rattle.signal.specs.declared.CurveStep.{CurveStep}
use Rattle.signal.specs.Value.{curve_value}
use Rattle.signal.specs.Speed.{curve_runs}
use Rattle.signal.specs.Ranges.{no_curve}
use Rattle.signal.specs.NewCode.{man_at}

-- E is the sum of v over the ticks since the curve began, its first tick not counted
unfoldable pub driven_now : Curve → Bool → ℕ → ℕ
driven_now curve begins v = cond begins curve.driven (curve.driven + v)

-- when its value equals T the curve ends
unfoldable pub curve_holds : Card → Curve → Bool → ℕ → ℕ → Bool
curve_holds card curve begins t v = curve_runs curve && not (eqb (curve_value card curve t (driven_now curve begins v)) t)

module _ (card : Card) (curve : Curve) (begins : Bool) (t v : ℕ) (keys : Keys) where
  -- then, with a curve running, a MAN press or adhesion loss starts MAN and ends the curve
  unfoldable pub man_starts : Bool
  man_starts = curve_holds card curve begins t v && (keys.man || keys.loss)

  -- where none runs its fields stay as they are
  unfoldable pub curve_now : Curve
  curve_now =
      cond (curve_runs curve)
      (cond (curve_holds card curve begins t v && not man_starts)
      (record { start = curve.start; driven = driven_now curve begins v; prompted = curve.prompted })
      no_curve)
      curve

  -- M for v where MAN starts, else M as step 4 leaves it
  unfoldable pub man_now : ℕ → ℕ
  man_now man = cond man_starts (man_at v) man

  abbrev pub step_5_curve : ℕ → CurveStep
  step_5_curve man = record { curve = curve_now; man = man_now man }
