-- The export asks and promises what the function does that it hands on to: its contract is the function's, by computation.
use mathlib.Core.Path.{◌≡◌, refl}
use Rattle.foldharbor_back_c.proofs.foldharbor_step_back.Reads as step_back_exported
use Rattle.foldharbor_back.proofs.foldharbor_step_back.Reads as step_back_called

pub step_back_asks : step_back_exported.requires ≡ step_back_called.requires
step_back_asks = refl

pub step_back_promises : step_back_exported.Post ≡ step_back_called.Post
step_back_promises = refl
