-- What the desk holds but card and n: a fresh one, and its ranges, as facts and as the test that the code makes.
use Rattle.std.specs.Prelude.{ℕ, ◌≤◌, Bool, ◌&&◌, leb}
use Rattle.card.specs.Card.{long_wait}
use Rattle.record.specs.Modes.{pos, zav}
use Rattle.record.specs.Flags.{all_buttons}
use Rattle.signal.specs.Ranges.{no_signal, SignalRanges, signal_in_range}
use Rattle.cyclic.specs.Ranges.{no_cyclic, CyclicRanges, cyclic_in_range}
use Rattle.onetime.specs.Ranges.{no_prompt, PromptRanges, prompt_in_range}
use Rattle.causes.specs.Held.{all_held}
use Rattle.motion.specs.Direction.{most_wrongway}
use Rattle.state.specs.declared.State.{State}

-- a mode, all else 0
abbrev pub mode_alone : ℕ → State
mode_alone mode = record {
  mode = mode;
  buttons = 0;
  signal = no_signal;
  prompt = no_prompt;
  cyclic = no_cyclic;
  wrongway = 0;
  standing = 0;
  causes = 0;
}

-- mode 1, all else 0
abbrev pub fresh_state : State
fresh_state = mode_alone pos

pub record StateRanges (state : State) : Type 0 where
  pub mode_least : pos ≤ state.mode
  pub mode_most : state.mode ≤ zav
  pub buttons_most : state.buttons ≤ all_buttons
  pub signal : SignalRanges state.signal
  pub prompt : PromptRanges state.prompt
  pub cyclic : CyclicRanges state.cyclic
  pub wrongway_most : state.wrongway ≤ most_wrongway
  pub standing_most : state.standing ≤ long_wait
  pub causes_most : state.causes ≤ all_held

unfoldable pub state_in_range : State → Bool
state_in_range state =
    leb pos state.mode && leb state.mode zav && leb state.buttons all_buttons && signal_in_range state.signal && prompt_in_range state.prompt
    && cyclic_in_range state.cyclic && leb state.wrongway most_wrongway && leb state.standing long_wait && leb state.causes all_held
