-- `Desk::step_back` meets its contract: refused by the number that `fit_back` comes to, else with the desk and the count that it hands on.
-- By the laws of a refused and of an accepted step back; an accepted one says all that `rebuilt` asks for (`back_records`).
use Rattle.std.proofs.Common.{ap, ◌∙◌}
use Rattle.refusal.specs.Number.{number_of}
use Rattle.desk.specs.Calls.{accepted}
use Rattle.desk.proofs.Calls.{back_refused, back_accepted, back_records}
use Rattle.desk.proofs.Desk.step_back.Goals as goal

pub returns-in-Err : goal.returns-in-Err
unfolding number_of
returns-in-Err c = c.refused.ensures ∙ back_refused _ _ _ _ c.in-Err.ensures.refusal

pub rebuilt-after-requires-clause-m_in_bounds : goal.rebuilt-after-requires-clause-m_in_bounds
unfolding number_of
rebuilt-after-requires-clause-m_in_bounds c = (back_records _ _ _ _ c.in-Ok.ensures.refusal c.in-Ok.ensures.fit.1).0

pub rebuilt-after-requires-clause-records_in_range : goal.rebuilt-after-requires-clause-records_in_range
unfolding number_of
rebuilt-after-requires-clause-records_in_range c = (back_records _ _ _ _ c.in-Ok.ensures.refusal c.in-Ok.ensures.fit.1).1

pub returns-in-Ok : goal.returns-in-Ok
unfolding number_of
returns-in-Ok c =
    c.accepted.ensures ∙ ap (accepted _ _) c.rebuilt-after.ensures ∙ back_accepted _ _ _ _ _ c.in-Ok.ensures.refusal c.in-Ok.ensures.fit
