-- The test of every message below the count.
use Rattle.std.proofs.Common.{sym, ◌∙◌, arith}
use Rattle.numbers.proofs.All.{all_none, all_more, all_not}
use Rattle.texts.proofs.messages_good.Goals as goal

pub loop-i-init : goal.loop-i-init
loop-i-init c = all_none _

pub returns-then-not-message_good : goal.returns-then-not-message_good
returns-then-not-message_good c =
    sym (all_not _ _ _ (omega arith) (sym c.message_good.ensures ∙ c.if-not-message_good.true))

pub loop-i-preserved : goal.loop-i-preserved
loop-i-preserved c = all_more _ _ c.loop-i.invariant (sym c.message_good.ensures ∙ c.if-not-message_good.false)
