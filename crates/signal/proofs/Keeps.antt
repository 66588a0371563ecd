-- Steps 2 to 6 keep the signals in range, and find speeds in range.
-- Each choice is bounded arm by arm; an arm that counts on by its own test. Assumes nothing.
use Prim.Native.Nat.{ℕ, ◌≤◌}
use mathlib.Core.Path.{◌≡◌}
use mathlib.Core.Bool.{Bool, true}
use native.Mathlib.Omega.{arith}
use borrow.Author.Tests.{eqb-false}
use Rattle.numbers.proofs.Choice.{cond_iff, most_iff}
use Rattle.numbers.proofs.Tests.{and_iff, not_iff}
use Rattle.reading.specs.Speed.{top_speed}
use Rattle.card.specs.declared.Card.{Card}
use Rattle.card.specs.Card.{CardRanges}
use Rattle.record.specs.declared.Record.{Record}
use Rattle.record.specs.declared.Keys.{Keys}
use Rattle.record.specs.Record.{RecordRanges}
use Rattle.signal.specs.declared.Curve.{Curve}
use Rattle.signal.specs.declared.Signal.{Signal}
use Rattle.signal.specs.Ranges.{CurveRanges, SignalRanges, CurveStepRanges, SignalStepRanges, farthest}
use Rattle.signal.specs.Speed.{signal_speed}
use Rattle.signal.specs.NewCode.{old_speed, man_by_code, curve_by_code}
use Rattle.codes.specs.Ranges.{CodesRanges}
use Rattle.codes.specs.Plus.{codes_next}
use Rattle.codes.proofs.Keeps.{target_most, codes_next_ranges}
use Rattle.signal.specs.Man.{step_4_man}
use Rattle.signal.specs.Curve.{driven_now, curve_holds, curve_now, man_now, step_5_curve}
use Rattle.signal.specs.Steps.{target_now, curve_and_man, steps_2_to_6}
use Rattle.signal.proofs.Value.{value_most, unspent}

pub signal_speed_most : (card : Card) (curve : Curve) (man t : ℕ) → CurveRanges curve → man ≤ top_speed → t ≤ top_speed
    → signal_speed card curve man t ≤ top_speed
unfolding signal_speed
signal_speed_most card curve man t good p q = simp most_iff (omega (arith, value_most card curve t curve.driven good q))

pub step_4_man_most : (was now : ℕ) (unchanged : Bool) (t v : ℕ) → now ≤ top_speed → step_4_man was now unchanged t v ≤ top_speed
unfolding step_4_man
step_4_man_most was now unchanged t v p = simp most_iff (omega arith)

module _ (card : Card) (curve : Curve) (begins : Bool) (t v : ℕ) (k : Keys) (card_good : CardRanges card) (good : CurveRanges curve)
    (t_most : t ≤ top_speed) where
  -- a curve that goes on is not spent
  near : curve_holds card curve begins t v ≡ true → driven_now curve begins v ≤ farthest
  unfolding curve_holds
  near h =
      let f = simp (and_iff, not_iff) at h in
      omega (arith, unspent card curve t (driven_now curve begins v) good t_most card_good (eqb-false _ _ f.1))

  curve_now_ranges : CurveRanges (curve_now card curve begins t v k)
  unfolding curve_now
  curve_now_ranges = simp (cond_iff CurveRanges, and_iff) (omega (arith, near))

  pub step_5_curve_ranges : (man : ℕ) → man ≤ top_speed → v ≤ top_speed → CurveStepRanges (step_5_curve card curve begins t v k man)
  unfolding man_now
  step_5_curve_ranges man p q = record { curve = curve_now_ranges; man_most = simp most_iff (omega arith) }

module _ (card : Card) (s : Signal) (r : Record) (card_good : CardRanges card) (good : SignalRanges s) (fits : RecordRanges r) where
  pub man_by_code_most : man_by_code card s r ≤ top_speed
  unfolding man_by_code
  man_by_code_most = simp most_iff (omega arith)

  old_speed_most : old_speed card s ≤ top_speed
  old_speed_most = signal_speed_most _ _ _ _ good.curve good.man_most (target_most _ _ _ card_good good.codes.raise_most)

  pub curve_by_code_ranges : CurveRanges (curve_by_code card s r)
  unfolding curve_by_code
  curve_by_code_ranges = simp (cond_iff CurveRanges) (omega (arith, old_speed_most))

  module _ (k : Keys) where
    codes_ranges : CodesRanges (codes_next s.codes r k)
    codes_ranges = codes_next_ranges _ _ _ good.codes fits

    target_now_most : target_now card s r k ≤ top_speed
    target_now_most = target_most _ _ _ card_good codes_ranges.raise_most

    curve_and_man_ranges : CurveStepRanges (curve_and_man card s r k)
    curve_and_man_ranges =
        step_5_curve_ranges _ _ _ _ _ _ card_good curve_by_code_ranges target_now_most _ (step_4_man_most _ _ _ _ _ man_by_code_most) fits.v_most

    pub steps_2_to_6_ranges : SignalStepRanges (steps_2_to_6 card s r k)
    unfolding steps_2_to_6
    steps_2_to_6_ranges = record {
      signal = record {
        codes = codes_ranges;
        curve = curve_and_man_ranges.curve;
        man_most = curve_and_man_ranges.man_most;
      };
      target_most = target_now_most;
      speed_most = signal_speed_most _ _ _ _ curve_and_man_ranges.curve curve_and_man_ranges.man_most target_now_most;
    }
