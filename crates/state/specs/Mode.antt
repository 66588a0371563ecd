-- Step 1: the mode, and what a new one clears.
use Rattle.std.specs.Prelude.{ℕ, Bool, not, ◌||◌, cond, eqb}
use Rattle.record.specs.declared.Record.{Record}
use Rattle.record.specs.Modes.{pre}
use Rattle.signal.specs.Ranges.{no_signal}
use Rattle.cyclic.specs.Ranges.{no_cyclic}
use Rattle.onetime.specs.Ranges.{no_prompt}
use Rattle.state.specs.declared.State.{State}

module _ (state : State) (reading : Record) where
  -- if v = 0, the asked mode is taken; if v > 0 the mode stays
  unfoldable pub mode_now : ℕ
  mode_now = cond (eqb reading.v 0) reading.mode state.mode

  -- if it is new, everything but card, n, buttons and causes is cleared
  abbrev pub new_mode : Bool
  new_mode = not (eqb mode_now state.mode)

  -- outside PRE the fields from last code to u's kind are set to 0
  abbrev pub outside_pre : Bool
  outside_pre = not (eqb mode_now pre)

  abbrev pub clears_pre : Bool
  clears_pre = new_mode || outside_pre

  unfoldable pub step_1_mode : State
  step_1_mode = record {
    mode = mode_now;
    buttons = state.buttons;
    signal = cond clears_pre no_signal state.signal;
    prompt = cond clears_pre no_prompt state.prompt;
    cyclic = cond new_mode no_cyclic state.cyclic;
    wrongway = cond new_mode 0 state.wrongway;
    standing = cond new_mode 0 state.standing;
    causes = state.causes;
  }
