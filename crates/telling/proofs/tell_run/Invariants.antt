-- `tell_run` drives as many ticks as the run has: after each turn, one more.
use Rattle.std.proofs.Common.{◌≡◌, ◌+◌}
use Rattle.telling.proofs.tell_run.Given as goal

abbrev pub invariant-loop : goal.invariant-loop
invariant-loop g l = l.drive.ticks ≡ l.fn.begun.ticks + l.counter
