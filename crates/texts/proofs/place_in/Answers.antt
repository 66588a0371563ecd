-- By the tests, one after the other.
use Rattle.std.proofs.Common.{sym, ◌∙◌, arith}
use Rattle.texts.proofs.Placed.{place_bad, place_beyond, place_there}
use Rattle.texts.proofs.place_in.Goals as goal

pub returns-then-not-table_good : goal.returns-then-not-table_good
returns-then-not-table_good c = place_bad _ _ (sym c.table_good.ensures ∙ c.if-not-table_good.true)

pub returns-then-count-number : goal.returns-then-count-number
returns-then-count-number c = place_beyond _ _ (sym c.table_good.ensures ∙ c.if-not-table_good.false) (omega arith)

pub returns : goal.returns
returns c = place_there _ _ (sym c.table_good.ensures ∙ c.if-not-table_good.false) (omega arith) c.offset.ensures c.offset-2.ensures
