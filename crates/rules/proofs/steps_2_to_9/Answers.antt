-- `steps_2_to_9` meets its contract: the keys and the steps in their order, each by its own contract.
use Rattle.std.proofs.Common.{arith}
use Rattle.std.proofs.lemmas.Grind.{common_steps}
use Rattle.rules.specs.Tick.{permitted_in, kind_in, cyclic_in, one_time_in, direction_in, standing_in}
use Rattle.rules.proofs.steps_2_to_9.Goals as goal

pub returns : goal.returns
unfolding permitted_in kind_in cyclic_in one_time_in direction_in standing_in
returns c = grind (arith, common_steps)
