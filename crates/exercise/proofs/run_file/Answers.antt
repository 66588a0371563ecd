-- `run_file` leaves in the buffer what the definition says: what it held where the run is refused, else the answers of the chosen card.
use Rattle.refusal.specs.Number.{number_of}
use Rattle.exercise.proofs.Outcome.{buffer_kept, buffer_left}
use Rattle.exercise.proofs.run_file.Goals as goal

pub returns-in_err-drives-clause-buffer : goal.returns-in_err-drives-clause-buffer
unfolding number_of
returns-in_err-drives-clause-buffer c = buffer_kept _ _ _ c.in_err-drives.field-0.0 c.in_err-drives.ensures.refusal

pub returns-clause-buffer : goal.returns-clause-buffer
unfolding number_of
returns-clause-buffer c =
    let run = c.in_ok-drives.ensures in
    buffer_left _ _ _ _ _ _ c.answer_all.ensures run.refusal run.drives run.card
