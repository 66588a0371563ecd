-- Step 9, NZ3: driving the wrong way.
use Rattle.std.specs.Prelude.{ℕ, ◌+◌, min, Bool, not, ◌&&◌, cond, ltb, eqb}
use Rattle.record.specs.declared.Record.{Record}
use Rattle.record.specs.declared.Keys.{Keys}
use Rattle.record.specs.Modes.{pre_or_vyl}
use Rattle.motion.specs.declared.DirectionStep.{DirectionStep}

-- the wrong-way distance that triggers: a tick at v moves v/360 m, so d counts 1/360 m, and this is 10 m
abbrev pub most_wrongway : ℕ
most_wrongway = 3600

-- motion agrees if cab on and lever = sense, not 0
abbrev pub agrees : Record → Keys → Bool
agrees reading keys = keys.cab && eqb reading.lever reading.sense && not (eqb reading.lever 0)

module _ (mode : ℕ) (reading : Record) (keys : Keys) (wrongway : ℕ) where
  -- the rule looks at motion, with v > 0, in PRE and VYL
  abbrev pub watches_motion : Bool
  watches_motion = pre_or_vyl mode && ltb 0 reading.v

  -- with v > 0, agreeing sets d = 0, else d = min(3600, d + v); v = 0 keeps d; other modes keep it
  unfoldable pub wrongway_now : ℕ
  wrongway_now = cond watches_motion (cond (agrees reading keys) 0 (min most_wrongway (wrongway + reading.v))) wrongway

  -- d = 3600 triggers; v = 0 never does
  unfoldable pub wrongway_triggers : Bool
  wrongway_triggers = watches_motion && eqb wrongway_now most_wrongway

  abbrev pub step_9_direction : DirectionStep
  step_9_direction = record { wrongway = wrongway_now; triggers = wrongway_triggers }
