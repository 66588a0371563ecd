-- Every row of the table of calls holds: the definitions of the five calls give what the paper and request 1 say.
-- By one computation, in which the definitions of the calls unfold, and those of a tick and of the ranges as in `rows_hold` and `ranges_hold`.
use mathlib.Core.Path.{◌≡◌, refl}
use mathlib.Core.List.{map}
use mathlib.Core.Bool.{decide}
use Rattle.numbers.specs.All.{all_below}
use Rattle.numbers.specs.Last.{last_of}
use Rattle.refusal.specs.Refusal.{first_refusal}
use Rattle.layout.specs.Layout.{u16_at, written}
use Rattle.record.specs.Record.{record_at}
use Rattle.record.specs.Sample.{sample_record, record_refusal, sample_refusal}
use Rattle.journal.specs.Journal.{capacity, records}
use Rattle.desk.specs.Calls.{open_outcome, desk_refusal, tick_refusal_of, tick_outcome, tick_journal, back_refusal, back_outcome, restart_outcome}
use Rattle.causes.specs.Cause.{among}
use Rattle.same.proofs.Desks.{by_test, same_desk?}
use Rattle.why.specs.Why.{reason_of, began, rebuilt_refusal, why_refusal, why_outcome}
use Rattle.examples.specs.Calls.{calls}
use Rattle.examples.proofs.Rows.{rows_hold}
use Rattle.examples.proofs.Ranges.{ranges_hold}

unfoldable pub calls_hold : map (λ row. row.what) calls ≡ map (λ row. row.is) calls
unfolding calls rows_hold ranges_hold
    all_below first_refusal u16_at written record_at sample_record record_refusal sample_refusal capacity records
    open_outcome desk_refusal tick_refusal_of tick_outcome tick_journal back_refusal back_outcome restart_outcome
    decide last_of among by_test same_desk? reason_of began rebuilt_refusal why_refusal why_outcome
calls_hold = refl
