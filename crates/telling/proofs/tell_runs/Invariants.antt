-- `tell_runs` drives the runs in turn: the ticks driven are those of the runs so far.
use Rattle.std.proofs.Common.{◌≡◌}
use Rattle.file.specs.Runs.{ticks_to}
use Rattle.telling.proofs.tell_runs.Given as goal

abbrev pub invariant-loop-j : goal.invariant-loop-j
invariant-loop-j g l = l.drive.ticks ≡ ticks_to l.drives.exercise.file.now l.j
