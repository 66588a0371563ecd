-- Each export asks and promises what the function does that it hands on to: its contract is the function's, by computation.
use mathlib.Core.Path.{◌≡◌, refl}
use Rattle.foldharbor_exercise_c.proofs.foldharbor_read_exercise.Reads as read_exercise_exported
use Rattle.foldharbor_exercise.proofs.foldharbor_read_exercise.Reads as read_exercise_called
use Rattle.foldharbor_exercise_c.proofs.foldharbor_run_exercise.Reads as run_exercise_exported
use Rattle.foldharbor_exercise.proofs.foldharbor_run_exercise.Reads as run_exercise_called

pub read_exercise_asks : read_exercise_exported.requires ≡ read_exercise_called.requires
read_exercise_asks = refl

pub read_exercise_promises : read_exercise_exported.Post ≡ read_exercise_called.Post
read_exercise_promises = refl

pub run_exercise_asks : run_exercise_exported.requires ≡ run_exercise_called.requires
run_exercise_asks = refl

pub run_exercise_promises : run_exercise_exported.Post ≡ run_exercise_called.Post
run_exercise_promises = refl
