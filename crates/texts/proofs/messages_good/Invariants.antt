-- Those passed are good.
use Rattle.std.proofs.Common.{◌≡◌, true}
use Rattle.numbers.specs.All.{all_below}
use Rattle.texts.specs.Table.{message_good}
use Rattle.texts.proofs.messages_good.Given as goal

abbrev pub invariant-loop-i : goal.invariant-loop-i
invariant-loop-i l = all_below (message_good l.table) l.i ≡ true
