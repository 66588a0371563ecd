-- `runs_read` keeps: the sum is that of the runs so far, and none of them is refused.
use Rattle.std.proofs.Common.{◌≤◌, ◌≡◌}
use Rattle.record.specs.Times.{most_ticks}
use Rattle.file.specs.Runs.{ticks_to, runs_refusal}
use Rattle.file.proofs.runs_read.Given as goal

abbrev pub invariant-loop-j : goal.invariant-loop-j
invariant-loop-j l = record { sum : l.sum ≡ ticks_to l.file l.j; most : l.sum ≤ most_ticks; good : runs_refusal l.file l.j ≡ 0 }
