-- The loop of `root` keeps that w is no lower than the root. The measure is w.
use Rattle.root.proofs.Newton.{Above}
use Rattle.root.proofs.root.Given as goal

abbrev pub invariant-loop-w : goal.invariant-loop-w
invariant-loop-w l = Above l.number l.w

abbrev pub decreases-loop-w : goal.decreases-loop-w
decreases-loop-w l = l.w
