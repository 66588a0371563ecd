-- Every row of the table of files holds: the definitions of reader, exercise and host's number give what the paper says.
-- By one computation, in which the definitions of a file unfold, and those of a tick, its ranges and its bytes as in `calls_hold`. Assumes nothing.
use mathlib.Core.Path.{◌≡◌, refl}
use mathlib.Core.List.{map}
use Rattle.card.specs.Card.{card_at}
use Rattle.file.specs.File.{header_good, card_in, run_ticks, run_record}
use Rattle.file.specs.Runs.{ticks_to, run_fault, runs_refusal, tick_record}
use Rattle.file.specs.Read.{head_refusal, read_refusal, read_outcome}
use Rattle.exercise.specs.Answers.{answers}
use Rattle.exercise.specs.Run.{exercise_refusal, exercise_outcome, exercise_buffer}
use Rattle.foldharbor_exercise.specs.Exercise.{host_number}
use Rattle.examples.specs.Files.{files}
use Rattle.examples.proofs.Calls.{calls_hold}

pub files_hold : map (λ row. row.what) files ≡ map (λ row. row.is) files
unfolding files calls_hold
    card_at header_good card_in run_ticks run_record ticks_to run_fault runs_refusal tick_record
    head_refusal read_refusal read_outcome answers exercise_refusal exercise_outcome exercise_buffer host_number
files_hold = refl
