-- Step 2: what a new code does to MAN and the curve.
use Rattle.std.specs.Prelude.{ℕ, max, Bool, not, ◌&&◌, cond, ltb, leb, eqb}
use Rattle.card.specs.declared.Card.{Card}
use Rattle.record.specs.declared.Record.{Record}
use Rattle.record.specs.Codes.{none}
use Rattle.signal.specs.declared.Curve.{Curve}
use Rattle.signal.specs.declared.Signal.{Signal}
use Rattle.signal.specs.declared.NewCode.{NewCode}
use Rattle.codes.specs.Gap.{new_code}
use Rattle.signal.specs.Ranges.{no_curve}
use Rattle.codes.specs.Target.{target}
use Rattle.signal.specs.Speed.{man_on, signal_speed}

abbrev pub curve_from : ℕ → Curve
curve_from speed = record { start = speed; driven = 0; prompted = 0 }

-- M is never below this speed
abbrev pub least_man : ℕ
least_man = 1200

-- M for a speed: that speed, or the least
abbrev pub man_at : ℕ → ℕ
man_at speed = max least_man speed

-- S0, the old signal speed
abbrev pub old_speed : Card → Signal → ℕ
old_speed card signal = signal_speed card signal.curve signal.man (target card signal.codes.last signal.codes.raise)

-- the new T, at raise 0
abbrev pub new_target : Card → Record → ℕ
new_target card reading = target card reading.code 0

module _ (card : Card) (signal : Signal) (reading : Record) where
  -- if MAN is on it ends when the new T > v
  abbrev pub man_stays : Bool
  man_stays = man_on signal.man && leb (new_target card reading) reading.v

  -- with MAN off or just ended it begins after a gap: the last code was 0, k is not 0, g > 50, and T is below the target of k at raise 0
  unfoldable pub gap_man : Bool
  gap_man =
      eqb signal.codes.last none && not (eqb signal.codes.interrupted none) && ltb 50 signal.codes.gap
      && ltb (new_target card reading) (target card signal.codes.interrupted 0)

  -- where MAN stays on it keeps its speed, and the curve, if one runs beside it, is left alone
  unfoldable pub man_by_code : ℕ
  man_by_code = cond (new_code signal.codes reading) (cond man_stays signal.man (cond gap_man (man_at reading.v) 0)) signal.man

  -- else a curve begins if T < S0
  unfoldable pub curve_begins : Bool
  curve_begins = new_code signal.codes reading && not man_stays && not gap_man && ltb (new_target card reading) (old_speed card signal)

  unfoldable pub curve_by_code : Curve
  curve_by_code =
      cond (new_code signal.codes reading) (cond man_stays signal.curve (cond curve_begins (curve_from (old_speed card signal)) no_curve)) signal.curve

  abbrev pub step_2_new_code : NewCode
  step_2_new_code = record { man = man_by_code; curve = curve_by_code; begins = curve_begins }
