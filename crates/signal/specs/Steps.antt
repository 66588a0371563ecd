-- Steps 2 to 6 in PRE, put together.
use Rattle.std.specs.Prelude.{ℕ}
use Rattle.card.specs.declared.Card.{Card}
use Rattle.record.specs.declared.Record.{Record}
use Rattle.record.specs.declared.Keys.{Keys}
use Rattle.signal.specs.declared.Signal.{Signal}
use Rattle.signal.specs.declared.CurveStep.{CurveStep}
use Rattle.signal.specs.declared.SignalStep.{SignalStep}
use Rattle.codes.specs.Target.{target}
use Rattle.signal.specs.Speed.{signal_speed}
use Rattle.signal.specs.NewCode.{man_by_code, curve_by_code, curve_begins}
use Rattle.codes.specs.Gap.{unchanged}
use Rattle.codes.specs.Plus.{codes_next}
use Rattle.signal.specs.Man.{step_4_man}
use Rattle.signal.specs.Curve.{step_5_curve}

module _ (card : Card) (signal : Signal) (reading : Record) (keys : Keys) where
  -- T, with the new raise
  abbrev pub target_now : ℕ
  target_now = target card reading.code (codes_next signal.codes reading keys).raise

  -- M as steps 2 and 4 leave it
  abbrev pub man_lowered : ℕ
  man_lowered = step_4_man signal.man (man_by_code card signal reading) (unchanged signal.codes reading) target_now reading.v

  abbrev pub curve_and_man : CurveStep
  curve_and_man = step_5_curve card (curve_by_code card signal reading) (curve_begins card signal reading) target_now reading.v keys man_lowered

  abbrev pub signal_next : Signal
  signal_next = record { codes = codes_next signal.codes reading keys; curve = curve_and_man.curve; man = curve_and_man.man }

  unfoldable pub steps_2_to_6 : SignalStep
  steps_2_to_6 = record {
    signal = signal_next;
    target = target_now;
    begins = curve_begins card signal reading;
    speed = signal_speed card curve_and_man.curve curve_and_man.man target_now;
  }
