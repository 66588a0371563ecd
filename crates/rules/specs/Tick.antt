-- One tick: what it finds, step by step, and what it makes of it.
use Rattle.std.specs.Prelude.{ℕ, false, ◌||◌, cond, eqb}
use Rattle.card.specs.declared.Card.{Card}
use Rattle.card.specs.Card.{beyond}
use Rattle.record.specs.declared.Record.{Record}
use Rattle.record.specs.declared.Keys.{Keys}
use Rattle.record.specs.Modes.{pre}
use Rattle.record.specs.Flags.{keys_of, buttons_of}
use Rattle.signal.specs.declared.SignalStep.{SignalStep}
use Rattle.signal.specs.Steps.{steps_2_to_6}
use Rattle.cyclic.specs.declared.CyclicStep.{CyclicStep}
use Rattle.onetime.specs.declared.OneTimeStep.{OneTimeStep}
use Rattle.cyclic.specs.Cyclic.{cyclic_kind, step_7_cyclic}
use Rattle.onetime.specs.OneTime.{step_8_one_time}
use Rattle.causes.specs.Causes.{Causes}
use Rattle.motion.specs.declared.DirectionStep.{DirectionStep}
use Rattle.motion.specs.declared.StandingStep.{StandingStep}
use Rattle.causes.specs.Held.{held_in, mask_of, lowest, how_many}
use Rattle.motion.specs.Direction.{step_9_direction}
use Rattle.motion.specs.Remote.{remote_stops}
use Rattle.motion.specs.Standing.{step_9_standing}
use Rattle.causes.specs.Keeping.{released, step_10_held, step_10_wrongway}
use Rattle.state.specs.declared.State.{State}
use Rattle.rules.specs.declared.Answer.{Answer}
use Rattle.rules.specs.declared.AfterTick.{AfterTick}
use Rattle.state.specs.Mode.{step_1_mode}
use Rattle.rules.specs.Permitted.{step_6_permitted}
use Rattle.rules.specs.Answer.{marks}

-- state: as step 1 leaves it
module _ (card : Card) (state : State) (reading : Record) where
  -- one press serves every rule
  abbrev pub keys_in : Keys
  keys_in = keys_of reading.flags state.buttons

  -- steps 2 to 6; outside PRE steps 2 to 5 are skipped, T is 0, and no rule looks at the signal speed
  unfoldable pub signal_in : SignalStep
  signal_in =
      cond (eqb state.mode pre) (steps_2_to_6 card state.signal reading keys_in)
      (record { signal = state.signal; target = 0; begins = false; speed = 0 })

  unfoldable pub permitted_in : ℕ
  permitted_in = step_6_permitted card state.mode signal_in.speed

  -- step 7
  unfoldable pub kind_in : ℕ
  kind_in = cyclic_kind state.mode signal_in.signal reading keys_in

  unfoldable pub cyclic_in : CyclicStep
  cyclic_in = step_7_cyclic card kind_in state.cyclic keys_in

  -- step 8
  unfoldable pub one_time_in : OneTimeStep
  one_time_in = step_8_one_time card signal_in.signal.curve signal_in.begins signal_in.target reading.v keys_in state.prompt

  -- step 9: NZ3 and NZ5 by what they count
  unfoldable pub direction_in : DirectionStep
  direction_in = step_9_direction state.mode reading keys_in state.wrongway

  unfoldable pub standing_in : StandingStep
  standing_in = step_9_standing card state.mode reading keys_in (held_in state.causes).nz5 state.standing

  -- the triggers; NZ2 in all modes: v > P + tolerance
  unfoldable pub triggers_in : Causes
  triggers_in = record {
    nz1 = cyclic_in.lapses || one_time_in.lapses;
    nz2 = beyond card permitted_in reading.v;
    nz3 = direction_in.triggers;
    nz4 = remote_stops state.mode keys_in;
    nz5 = standing_in.triggers;
  }

  -- step 10
  unfoldable pub releases_in : Causes
  releases_in = released permitted_in reading keys_in

  unfoldable pub held_next : Causes
  held_next = step_10_held (held_in state.causes) triggers_in releases_in

  unfoldable pub wrongway_next : ℕ
  wrongway_next = step_10_wrongway direction_in.wrongway (held_in state.causes) triggers_in releases_in

  -- then the buttons and, in PRE, the last code become this tick's
  unfoldable pub state_next : State
  state_next = record {
    mode = state.mode;
    buttons = buttons_of reading.flags;
    signal = record {
      codes = signal_in.signal.codes;
      curve = record {
        start = signal_in.signal.curve.start;
        driven = signal_in.signal.curve.driven;
        prompted = one_time_in.prompted;
      };
      man = signal_in.signal.man;
    };
    prompt = one_time_in.prompt;
    cyclic = cyclic_in.cyclic;
    wrongway = wrongway_next;
    standing = standing_in.standing;
    causes = mask_of held_next;
  }

  unfoldable pub answer_now : Answer
  answer_now = record {
    permitted = permitted_in;
    target = signal_in.target;
    marks = marks signal_in.signal cyclic_in one_time_in.prompt standing_in;
    causes = mask_of held_next;
    lowest = lowest (mask_of held_next);
    held = how_many (mask_of held_next);
  }

  unfoldable pub steps_2_to_10 : AfterTick
  steps_2_to_10 = record { state = state_next; answer = answer_now }

-- steps 1 to 10
unfoldable pub advance : Card → State → Record → AfterTick
advance card state reading = steps_2_to_10 card (step_1_mode state reading) reading
