-- `Desk::tick` meets its contract: refused by the number that `fit_tick` comes to, else with the desk and the record that it hands on.
-- By the laws of a refused and of an accepted tick (`tick_refused`, `tick_accepted`).
use Rattle.std.proofs.Common.{ap, ◌∙◌, ◌+◌}
use Rattle.refusal.specs.Number.{number_of}
use Rattle.desk.specs.Calls.{accepted}
use Rattle.desk.proofs.Calls.{tick_refused, tick_accepted}
use Rattle.desk.proofs.Desk.tick.Goals as goal

pub returns-in-Err-clause-outcome : goal.returns-in-Err-clause-outcome
unfolding number_of
returns-in-Err-clause-outcome c = c.refused.ensures ∙ (tick_refused _ _ _ _ c.in-Err.ensures.refusal).0

pub returns-in-Err-clause-journal : goal.returns-in-Err-clause-journal
unfolding number_of
returns-in-Err-clause-journal c = (tick_refused _ _ _ _ c.in-Err.ensures.refusal).1

pub returns-in-Ok-clause-outcome : goal.returns-in-Ok-clause-outcome
unfolding number_of
returns-in-Ok-clause-outcome c =
    c.accepted.ensures
    ∙ ap (accepted _ _) c.advance-after.ensures.0
    ∙ (tick_accepted _ _ _ _ _ c.in-Ok.ensures.refusal c.in-Ok.ensures.fit).0

pub returns-in-Ok-clause-journal : goal.returns-in-Ok-clause-journal
unfolding number_of
returns-in-Ok-clause-journal c = c.put_record.ensures ∙ (tick_accepted _ _ _ _ _ c.in-Ok.ensures.refusal c.in-Ok.ensures.fit).1
