-- `explained` meets its contract: the records are there and each start fits, since no refusal came before; then the reasons are by the starts.
-- By the laws of what was told of the records (`told_fits`, `told_reasons`).
use Rattle.std.proofs.Common.{sym, ◌∙◌}
use Rattle.refusal.specs.Number.{number_of}
use Rattle.desk.proofs.Calls.{desk_taken}
use Rattle.why.proofs.Calls.{why_rebuilt, told_fits, told_reasons}
use Rattle.why.proofs.explained.Goals as goal

pub retold-requires : goal.retold-requires
unfolding number_of
retold-requires c = record { records_there = (desk_taken _ _ (sym c.in_ok-fit.ensures.refusal)).long }

pub reasons_of-requires : goal.reasons_of-requires
unfolding number_of
reasons_of-requires c =
    rw c.held_in-held.ensures
    (told_fits _ _ _ c.in_ok-fit.ensures.refusal c.in_ok-fit.ensures.fit _ c.in_ok-told.ensures c.in_ok-retold_refusal.ensures)

pub returns-clause-refusal : goal.returns-clause-refusal
unfolding number_of
returns-clause-refusal c =
    why_rebuilt _ _ _ c.in_ok-fit.ensures.refusal c.in_ok-fit.ensures.fit _ c.in_ok-told.ensures 0 c.in_ok-retold_refusal.ensures

pub returns-clause-reasons : goal.returns-clause-reasons
unfolding number_of
returns-clause-reasons c =
    c.reasons_of.ensures
    ∙ rw c.held_in-held.ensures
    (told_reasons _ _ _ c.in_ok-fit.ensures.refusal c.in_ok-fit.ensures.fit _ c.in_ok-told.ensures c.in_ok-retold_refusal.ensures)
