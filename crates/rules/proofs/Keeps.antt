-- One tick keeps the state in range.
-- Each part by the law of its step, put together as the tick puts them together. Assumes nothing.
use Prim.Native.Nat.{ℕ, ◌≤◌}
use lib.Dec.{eqb}
use native.Mathlib.Omega.{arith}
use Rattle.numbers.proofs.Choice.{cond_has, most_iff}
use Rattle.reading.specs.Speed.{top_speed}
use Rattle.card.specs.declared.Card.{Card}
use Rattle.card.specs.Card.{CardRanges, long_wait}
use Rattle.record.specs.declared.Record.{Record}
use Rattle.record.specs.Record.{RecordRanges}
use Rattle.record.specs.Modes.{pre}
use Rattle.signal.specs.Ranges.{SignalStepRanges}
use Rattle.signal.proofs.Keeps.{steps_2_to_6_ranges}
use Rattle.cyclic.specs.Ranges.{CyclicRanges}
use Rattle.onetime.specs.Ranges.{OneTimeStepRanges}
use Rattle.cyclic.proofs.Keeps.{cyclic_kind_most, step_7_cyclic_ranges}
use Rattle.onetime.proofs.Keeps.{step_8_one_time_ranges}
use Rattle.motion.specs.Direction.{most_wrongway}
use Rattle.motion.proofs.Keeps.{wrongway_now_most, standing_now_most}
use Rattle.causes.proofs.Keeps.{step_10_wrongway_most, mask_of_most}
use Rattle.state.specs.declared.State.{State}
use Rattle.state.specs.State.{StateRanges}
use Rattle.state.proofs.Keeps.{step_1_mode_ranges}
use Rattle.rules.specs.Permitted.{step_6_permitted}
use Rattle.rules.specs.Tick.{signal_in, permitted_in, kind_in, cyclic_in, one_time_in, direction_in, standing_in}
use Rattle.rules.specs.Tick.{held_next, wrongway_next, state_next, steps_2_to_10, advance}

pub permitted_most : (card : Card) (mode speed : ℕ) → CardRanges card → step_6_permitted card mode speed ≤ top_speed
unfolding step_6_permitted
permitted_most card mode speed good = simp most_iff (omega arith)

module _ (card : Card) (s : State) (r : Record) (card_good : CardRanges card) (good : StateRanges s) (fits : RecordRanges r) where
  signal_in_ranges : SignalStepRanges (signal_in card s r)
  unfolding signal_in
  signal_in_ranges =
      cond_has SignalStepRanges (eqb s.mode pre) (steps_2_to_6_ranges _ _ _ card_good good.signal fits _) (omega arith)

  pub permitted_in_most : permitted_in card s r ≤ top_speed
  unfolding permitted_in
  permitted_in_most = permitted_most _ _ _ card_good

  cyclic_in_ranges : CyclicRanges (cyclic_in card s r).cyclic
  unfolding kind_in cyclic_in
  cyclic_in_ranges = step_7_cyclic_ranges _ _ card_good _ _ (cyclic_kind_most _ _ _ _)

  one_time_in_ranges : OneTimeStepRanges (one_time_in card s r)
  unfolding one_time_in
  one_time_in_ranges = step_8_one_time_ranges _ _ _ _ _ _ _ signal_in_ranges.signal.curve.prompted_most good.prompt.kind_most

  wrongway_next_most : wrongway_next card s r ≤ most_wrongway
  unfolding direction_in wrongway_next
  wrongway_next_most = step_10_wrongway_most _ _ _ _ _ (wrongway_now_most _ _ _ _ good.wrongway_most)

  standing_in_most : (standing_in card s r).standing ≤ long_wait
  unfolding standing_in
  standing_in_most = standing_now_most _ _ _ _ _ _ card_good good.standing_most

  pub state_next_ranges : StateRanges (state_next card s r)
  unfolding state_next
  state_next_ranges =
      omega (arith, signal_in_ranges, cyclic_in_ranges, one_time_in_ranges, wrongway_next_most, standing_in_most, mask_of_most (held_next card s r))

pub advance_keeps : (card : Card) (s : State) (r : Record) → CardRanges card → StateRanges s → RecordRanges r → StateRanges (advance card s r).state
unfolding advance steps_2_to_10
advance_keeps card s r card_good good fits = state_next_ranges _ _ _ card_good (step_1_mode_ranges s r good fits) fits
