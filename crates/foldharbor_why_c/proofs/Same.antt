-- The export asks and promises what the function does that it hands on to: its contract is the function's, by computation.
use mathlib.Core.Path.{◌≡◌, refl}
use Rattle.foldharbor_why_c.proofs.foldharbor_why.Reads as why_exported
use Rattle.foldharbor_why.proofs.foldharbor_why.Reads as why_called

pub why_asks : why_exported.requires ≡ why_called.requires
why_asks = refl

pub why_promises : why_exported.Post ≡ why_called.Post
why_promises = refl
