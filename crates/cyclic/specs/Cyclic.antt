-- Step 7: cyclic vigilance.
use Rattle.std.specs.Prelude.{ℕ, ◌+◌, ◌-◌, Bool, not, ◌&&◌, ◌||◌, cond, ltb, leb, eqb}
use Rattle.card.specs.declared.Card.{Card}
use Rattle.record.specs.declared.Record.{Record}
use Rattle.record.specs.declared.Keys.{Keys}
use Rattle.record.specs.Codes.{stop, warning, forty}
use Rattle.record.specs.Modes.{pre, pre_or_vyl}
use Rattle.signal.specs.declared.Signal.{Signal}
use Rattle.signal.specs.Speed.{curve_runs, man_on}
use Rattle.cyclic.specs.declared.Cyclic.{Cyclic}
use Rattle.cyclic.specs.declared.CyclicStep.{CyclicStep}
use Rattle.cyclic.specs.Ranges.{ordinary, increased}

abbrev pub eased : Record → Keys → Bool
eased reading keys = eqb reading.v 0 || (keys.brake && ltb reading.v 150)

-- signal: as steps 2 to 5 leave it
module _ (mode : ℕ) (signal : Signal) (reading : Record) (keys : Keys) where
  -- in PRE: MAN; Stop without curve, not eased; code 3 with raise ≥ 1, not eased; Warning without curve and v > 900
  unfoldable pub asks_increased : Bool
  asks_increased =
      eqb mode pre
      && (man_on signal.man
      || (eqb reading.code stop && not (curve_runs signal.curve) && not (eased reading keys))
      || (eqb reading.code forty && leb 1 signal.codes.raise && not (eased reading keys))
      || (eqb reading.code warning && not (curve_runs signal.curve) && ltb 900 reading.v))

  -- else in PRE and VYL if not eased
  unfoldable pub asks_ordinary : Bool
  asks_ordinary = pre_or_vyl mode && not (eased reading keys)

  unfoldable pub cyclic_kind : ℕ
  cyclic_kind = cond asks_increased increased (cond asks_ordinary ordinary 0)

abbrev pub increased_cycle : ℕ
increased_cycle = 120

-- L is 120 for increased, the card's cycle for ordinary; kind 0 has none, and nothing looks at it there
unfoldable pub cycle_length : Card → ℕ → ℕ
cycle_length card kind = cond (eqb kind increased) increased_cycle card.cycle

-- a prompt shows for the last ticks of a cycle
abbrev pub prompt_ticks : ℕ
prompt_ticks = 35

module _ (card : Card) (kind : ℕ) (old : Cyclic) (keys : Keys) where
  -- new kind or kind 0: q = 0
  abbrev pub restarts : Bool
  restarts = eqb kind 0 || not (eqb kind old.kind)

  -- a vigilance press sets q = 0 if ordinary, or if the old q ≥ 85
  abbrev pub confirms : Bool
  confirms = keys.vigilance && (eqb kind ordinary || leb 85 old.ticks)

  -- else q grows by one, and at L or more triggers NZ1 and returns to 0
  abbrev pub cycle_ends : Bool
  cycle_ends = leb (cycle_length card kind) (old.ticks + 1)

  unfoldable pub cyclic_lapses : Bool
  cyclic_lapses = not (restarts || confirms) && cycle_ends

  unfoldable pub cyclic_ticks : ℕ
  cyclic_ticks = cond (restarts || confirms || cycle_ends) 0 (old.ticks + 1)

  -- a prompt shows while q, after this step, is ≥ L − 35 (never in kind 0)
  unfoldable pub cyclic_prompts : Bool
  cyclic_prompts = not (eqb kind 0) && leb (cycle_length card kind - prompt_ticks) cyclic_ticks

  abbrev pub step_7_cyclic : CyclicStep
  step_7_cyclic = record { cyclic = record { kind = kind; ticks = cyclic_ticks }; lapses = cyclic_lapses; prompts = cyclic_prompts }
