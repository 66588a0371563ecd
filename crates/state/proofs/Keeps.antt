-- Step 1 keeps the state in range.
-- Each choice has what both of its arms have. Assumes nothing.
use Prim.Native.Nat.{◌≤◌}
use mathlib.Core.Bool.{◌||◌}
use lib.Dec.{eqb}
use native.Mathlib.Omega.{arith}
use Rattle.numbers.proofs.Choice.{cond_has, most_iff}
use Rattle.record.specs.declared.Record.{Record}
use Rattle.record.specs.Record.{RecordRanges}
use Rattle.record.specs.Modes.{pos, zav}
use Rattle.signal.specs.Ranges.{SignalRanges}
use Rattle.cyclic.specs.Ranges.{CyclicRanges}
use Rattle.onetime.specs.Ranges.{PromptRanges}
use Rattle.state.specs.declared.State.{State}
use Rattle.state.specs.State.{StateRanges}
use Rattle.state.specs.Mode.{mode_now, new_mode, outside_pre, step_1_mode}

module _ (s : State) (r : Record) (good : StateRanges s) (fits : RecordRanges r) where
  mode_now_between : (pos ≤ mode_now s r) × (mode_now s r ≤ zav)
  unfolding mode_now
  mode_now_between = cond_has (λ m. (pos ≤ m) × (m ≤ zav)) (eqb r.v 0) (omega arith) (omega arith)

  pub step_1_mode_ranges : StateRanges (step_1_mode s r)
  unfolding step_1_mode
  step_1_mode_ranges = record {
    mode_least = mode_now_between.0;
    mode_most = mode_now_between.1;
    buttons_most = good.buttons_most;
    signal = cond_has SignalRanges (new_mode s r || outside_pre s r) (omega arith) good.signal;
    prompt = cond_has PromptRanges (new_mode s r || outside_pre s r) (omega arith) good.prompt;
    cyclic = cond_has CyclicRanges (new_mode s r) (omega arith) good.cyclic;
    wrongway_most = simp most_iff (omega arith);
    standing_most = simp most_iff (omega arith);
    causes_most = good.causes_most;
  }
