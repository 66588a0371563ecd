-- `root` steps from a power of two to a guess no lower than the root: Newton's step never goes below it, from any guess above 0.
use native.Mathlib.Omega.{arith}
use lib.Count.{count_leading_zeros}
use Rattle.root.proofs.Newton.{stays_in_range, step_above, power_small, power_range}
use Rattle.root.proofs.root.Goals as goal

pub loop-w-init : goal.loop-w-init
loop-w-init c =
    let from = power_range _ (power_small (count_leading_zeros 32 c.args.number)) in
    let high = stays_in_range _ _ c.requires from.1 in
    rw c.nearer-w.ensures (step_above c.args.number _ c.requires (omega arith) (omega (arith, c.nearer-high.ensures, high)))
