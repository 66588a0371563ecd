-- Each run adds 65,535 ticks at most.
use Rattle.std.proofs.Common.{◌*◌, ◌≤◌}
use Rattle.show.proofs.show_card.Given as goal

abbrev pub invariant-loop-j : goal.invariant-loop-j
invariant-loop-j g l = l.ticks ≤ 65535 * l.j
