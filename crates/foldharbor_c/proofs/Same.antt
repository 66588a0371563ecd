-- Each export asks and promises what the function does that it hands on to: its contract is the function's, by computation.
use mathlib.Core.Path.{◌≡◌, refl}
use Rattle.foldharbor_c.proofs.foldharbor_version.Reads as version_exported
use Rattle.foldharbor.proofs.foldharbor_version.Reads as version_called
use Rattle.foldharbor_c.proofs.foldharbor_open.Reads as open_exported
use Rattle.foldharbor.proofs.foldharbor_open.Reads as open_called
use Rattle.foldharbor_c.proofs.foldharbor_tick.Reads as tick_exported
use Rattle.foldharbor.proofs.foldharbor_tick.Reads as tick_called
use Rattle.foldharbor_c.proofs.foldharbor_restart.Reads as restart_exported
use Rattle.foldharbor.proofs.foldharbor_restart.Reads as restart_called
use Rattle.foldharbor_c.proofs.foldharbor_card_at.Reads as card_at_exported
use Rattle.foldharbor.proofs.foldharbor_card_at.Reads as card_at_called
use Rattle.foldharbor_c.proofs.foldharbor_put_card.Reads as put_card_exported
use Rattle.foldharbor.proofs.foldharbor_put_card.Reads as put_card_called
use Rattle.foldharbor_c.proofs.foldharbor_answer_at.Reads as answer_at_exported
use Rattle.foldharbor.proofs.foldharbor_answer_at.Reads as answer_at_called
use Rattle.foldharbor_c.proofs.foldharbor_put_answer.Reads as put_answer_exported
use Rattle.foldharbor.proofs.foldharbor_put_answer.Reads as put_answer_called
use Rattle.foldharbor_c.proofs.foldharbor_text.Reads as text_exported
use Rattle.foldharbor.proofs.foldharbor_text.Reads as text_called

pub version_asks : version_exported.requires ≡ version_called.requires
version_asks = refl

pub version_promises : version_exported.Post ≡ version_called.Post
version_promises = refl

pub open_asks : open_exported.requires ≡ open_called.requires
open_asks = refl

pub open_promises : open_exported.Post ≡ open_called.Post
open_promises = refl

pub tick_asks : tick_exported.requires ≡ tick_called.requires
tick_asks = refl

pub tick_promises : tick_exported.Post ≡ tick_called.Post
tick_promises = refl

pub restart_asks : restart_exported.requires ≡ restart_called.requires
restart_asks = refl

pub restart_promises : restart_exported.Post ≡ restart_called.Post
restart_promises = refl

pub card_at_asks : card_at_exported.requires ≡ card_at_called.requires
card_at_asks = refl

pub card_at_promises : card_at_exported.Post ≡ card_at_called.Post
card_at_promises = refl

pub put_card_asks : put_card_exported.requires ≡ put_card_called.requires
put_card_asks = refl

pub put_card_promises : put_card_exported.Post ≡ put_card_called.Post
put_card_promises = refl

pub answer_at_asks : answer_at_exported.requires ≡ answer_at_called.requires
answer_at_asks = refl

pub answer_at_promises : answer_at_exported.Post ≡ answer_at_called.Post
answer_at_promises = refl

pub put_answer_asks : put_answer_exported.requires ≡ put_answer_called.requires
put_answer_asks = refl

pub put_answer_promises : put_answer_exported.Post ≡ put_answer_called.Post
put_answer_promises = refl

pub text_asks : text_exported.requires ≡ text_called.requires
text_asks = refl

pub text_promises : text_exported.Post ≡ text_called.Post
text_promises = refl
