-- What the desk holds of the signals: its zeros, and its ranges, as facts and as the test that the code makes;
-- then the ranges of what steps 2 to 6 find.
use Rattle.std.specs.Prelude.{ℕ, ◌+◌, ◌*◌, ◌≤◌, Bool, ◌&&◌, leb}
use Rattle.reading.specs.Speed.{top_speed}
use Rattle.codes.specs.Ranges.{no_codes, CodesRanges, codes_in_range}
use Rattle.signal.specs.declared.Curve.{Curve}
use Rattle.signal.specs.declared.Signal.{Signal}
use Rattle.signal.specs.declared.NewCode.{NewCode}
use Rattle.signal.specs.declared.CurveStep.{CurveStep}
use Rattle.signal.specs.declared.SignalStep.{SignalStep}

-- the most that a desk holds as E
abbrev pub farthest : ℕ
farthest = 6250000

-- the one-time rule asks at E + v·150 at most, and at v·249 where E is 0
abbrev pub farthest_ahead : ℕ
farthest_ahead = farthest + 249 * top_speed

abbrev pub no_curve : Curve
no_curve = record { start = 0; driven = 0; prompted = 0 }

abbrev pub no_signal : Signal
no_signal = record { codes = no_codes; curve = no_curve; man = 0 }

pub record CurveRanges (curve : Curve) : Type 0 where
  pub start_most : curve.start ≤ top_speed
  pub driven_most : curve.driven ≤ farthest
  pub prompted_most : curve.prompted ≤ 1

pub record SignalRanges (signal : Signal) : Type 0 where
  pub codes : CodesRanges signal.codes
  pub curve : CurveRanges signal.curve
  pub man_most : signal.man ≤ top_speed

unfoldable pub curve_in_range : Curve → Bool
curve_in_range curve = leb curve.start top_speed && leb curve.driven farthest && leb curve.prompted 1

unfoldable pub signal_in_range : Signal → Bool
signal_in_range signal =
    codes_in_range signal.codes && leb signal.curve.start top_speed && leb signal.curve.driven farthest
    && leb signal.curve.prompted 1 && leb signal.man top_speed

pub record NewCodeRanges (step : NewCode) : Type 0 where
  pub man_most : step.man ≤ top_speed
  pub curve : CurveRanges step.curve

pub record CurveStepRanges (step : CurveStep) : Type 0 where
  pub curve : CurveRanges step.curve
  pub man_most : step.man ≤ top_speed

pub record SignalStepRanges (step : SignalStep) : Type 0 where
  pub signal : SignalRanges step.signal
  pub target_most : step.target ≤ top_speed
  pub speed_most : step.speed ≤ top_speed
