-- The curve after a tick: that of steps 2 to 6 from the desk's own signals where the desk is in PRE and stays there; where it leaves PRE there is none.
-- By the definitions of steps 1 and 2 to 6. Assumes nothing.
use mathlib.Core.Path.{◌≡◌, refl, ap, ◌∙◌}
use mathlib.Core.Bool.{or-true}
use borrow.Author.Tests.{ne_eqb}
use Rattle.card.specs.declared.Card.{Card}
use Rattle.record.specs.declared.Record.{Record}
use Rattle.record.specs.Modes.{pre}
use Rattle.record.specs.Flags.{keys_of}
use Rattle.signal.specs.declared.SignalStep.{SignalStep}
use Rattle.signal.specs.Ranges.{no_signal}
use Rattle.signal.specs.Steps.{steps_2_to_6}
use Rattle.state.specs.declared.State.{State}
use Rattle.state.specs.Mode.{mode_now, step_1_mode}
use Rattle.rules.specs.Tick.{signal_in, state_next, answer_now, steps_2_to_10, advance}

module _ (card : Card) (state : State) (reading : Record) where
  abbrev pub cleared : State
  cleared = step_1_mode state reading

  abbrev pub found : SignalStep
  found = signal_in card cleared reading

  pub start_after : (advance card state reading).state.signal.curve.start ≡ found.signal.curve.start
  unfolding advance steps_2_to_10 state_next
  start_after = refl

  pub driven_after : (advance card state reading).state.signal.curve.driven ≡ found.signal.curve.driven
  unfolding advance steps_2_to_10 state_next
  driven_after = refl

  pub target_after : (advance card state reading).answer.target ≡ found.target
  unfolding advance steps_2_to_10 answer_now
  target_after = refl

  mode_is : cleared.mode ≡ mode_now state reading
  unfolding step_1_mode
  mode_is = refl

  buttons_are : cleared.buttons ≡ state.buttons
  unfolding step_1_mode
  buttons_are = refl

  signal_kept : state.mode ≡ pre → mode_now state reading ≡ pre → cleared.signal ≡ state.signal
  unfolding step_1_mode
  signal_kept was now = simp (was, now)

  signal_cleared : (mode_now state reading ≡ pre → ⊥) → cleared.signal ≡ no_signal
  unfolding step_1_mode
  signal_cleared n = simp (ne_eqb (mode_now state reading) pre n, or-true)

  -- in PRE that of steps 2 to 6, from the signals as step 1 left them
  pub in_mode : mode_now state reading ≡ pre → found ≡ steps_2_to_6 card cleared.signal reading (keys_of reading.flags state.buttons)
  unfolding signal_in
  in_mode now = simp (mode_is, buttons_are, now)

  -- where it was in PRE, those of the desk
  pub in_pre_lem : state.mode ≡ pre → mode_now state reading ≡ pre
      → found ≡ steps_2_to_6 card state.signal reading (keys_of reading.flags state.buttons)
  in_pre_lem was now = in_mode now ∙ ap (λ signal. steps_2_to_6 card signal reading (keys_of reading.flags state.buttons)) (signal_kept was now)

  pub left_pre : (mode_now state reading ≡ pre → ⊥) → found.signal ≡ no_signal
  unfolding signal_in
  left_pre n = simp (mode_is, signal_cleared n, ne_eqb (mode_now state reading) pre n)
