-- `answer_all` keeps in both loops, over the runs and over a run's ticks: what is written so far is the answers of the ticks so far, and the state
-- is that after them.
use Rattle.std.proofs.Common.{◌≤◌, ◌≡◌, length}
use Rattle.layout.specs.Layout.{written}
use Rattle.state.specs.State.{StateRanges}
use Rattle.rules.specs.After.{after}
use Rattle.file.proofs.Runs.{RunDriven}
use Rattle.file.specs.Runs.{ticks_to}
use Rattle.file.specs.Read.{drive}
use Rattle.exercise.specs.Answers.{answers}
use Rattle.exercise.proofs.answer_all.Given as goal

-- between runs
abbrev pub invariant-loop-j : goal.invariant-loop-j
invariant-loop-j l =
    let file = l.drives.exercise.file.now in
    record {
      ticks : l.from ≡ ticks_to file l.j;
      reached : l.state ≡ (after l.card.it (drive file) l.from).state;
      ranges : StateRanges l.state;
      as_long : length l.buffer ≡ length l.fn.buffer;
      so_far : l.buffer ≡ written l.fn.buffer 0 (answers l.card.it (drive file) l.from);
    }

-- in a run
abbrev pub invariant-loop-i : goal.invariant-loop-i
invariant-loop-i l =
    let file = l.drives.exercise.file.now in
    record {
      run : RunDriven file l.j l.end l.run.record.it;
      since : ticks_to file l.j ≤ l.i;
      reached : l.state ≡ (after l.card.it (drive file) l.i).state;
      ranges : StateRanges l.state;
      as_long : length l.buffer ≡ length l.fn.buffer;
      so_far : l.buffer ≡ written l.fn.buffer 0 (answers l.card.it (drive file) l.i);
    }
