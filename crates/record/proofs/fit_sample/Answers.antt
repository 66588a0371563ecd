-- `fit_sample` gives the number of the first refusal: a `?` passes it on, and the record's is 3.
use mathlib.Core.Path.{sym, ◌∙◌}
use Rattle.refusal.specs.declared.Refusal.TheVariants.{BadField}
use Rattle.refusal.proofs.Number.{passed_on, or_number, or_value}
use Rattle.record.specs.Laws.{ranges_record}
use Rattle.record.proofs.Refusal.{speed_refused, pressure_refused, record_read, field_refused}
use Rattle.record.proofs.fit_sample.Goals as goal

pub returns-in_err-v-clause-refusal : goal.returns-in_err-v-clause-refusal
returns-in_err-v-clause-refusal c =
    passed_on c.from_residual.result _ c.from_residual.ensures.1 ∙ sym (speed_refused c.args.sample _ c.in_err-v.ensures)

pub returns-in_err-band-clause-refusal : goal.returns-in_err-band-clause-refusal
returns-in_err-band-clause-refusal c =
    passed_on c.from_residual-in_err-band.result _ c.from_residual-in_err-band.ensures.1
    ∙ sym (pressure_refused c.args.sample _ _ c.in_ok-v.ensures c.in_err-band.ensures)

pub returns-clause-refusal : goal.returns-clause-refusal
returns-clause-refusal c =
    or_number BadField _ _ c.of.result c.of.ensures (λ good e. rw (← e) (ranges_record _ good.in_range)) c.ok_or.result c.ok_or.ensures.value
    ∙ sym (field_refused c.args.sample _ _ c.in_ok-v.ensures c.in_ok-band.ensures)

pub returns-clause-reading : goal.returns-clause-reading
returns-clause-reading c =
    rw (← record_read c.args.sample _ _ c.in_ok-v.ensures c.in_ok-band.ensures)
    (or_value BadField _ _ c.of.result c.of.ensures c.ok_or.result c.ok_or.ensures.value)
