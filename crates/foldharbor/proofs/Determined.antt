-- Each exported call asks nothing of its caller, and its contract determines what it returns and every lent byte: two outcomes that satisfy it are equal.
-- `requires` and `Post` are the contract as the check reads it off the source: a `requires`, or an `ensures` that says less, breaks these lines.
-- `at_exit` is what the parameters hold afterwards, by their types: a slice that is lent to be read holds what it held.
use mathlib.Core.Path.{◌≡◌, refl}
use base.Logic.{emp}
use contract.Lifetimes.{Lfts}
use borrow.Fn.World.{World}
use denote.Triple.Clauses.{Lasts, at_exit}
use Rattle.numbers.proofs.Alike.{alike}
use Rattle.foldharbor.proofs.foldharbor_version.Reads as versioning
use Rattle.foldharbor.proofs.foldharbor_open.Reads as opening
use Rattle.foldharbor.proofs.foldharbor_tick.Reads as ticking
use Rattle.foldharbor.proofs.foldharbor_restart.Reads as restarting
use Rattle.foldharbor.specs.contracts.foldharbor_card_at as card_read_call
use Rattle.foldharbor.proofs.foldharbor_card_at.Reads as card_reading
use Rattle.foldharbor.proofs.foldharbor_put_card.Reads as card_putting
use Rattle.foldharbor.specs.contracts.foldharbor_answer_at as answer_read_call
use Rattle.foldharbor.proofs.foldharbor_answer_at.Reads as answer_reading
use Rattle.foldharbor.proofs.foldharbor_put_answer.Reads as answer_putting
use Rattle.foldharbor.specs.contracts.foldharbor_text as text_call
use Rattle.foldharbor.proofs.foldharbor_text.Reads as telling

pub version_asks_nothing : (κs : Lfts 0) (a : _) (w : World) → versioning.requires κs a tt w ≡ emp w.𝓤
version_asks_nothing κs a w = refl

pub version_determined : (κs : Lfts 0) (a : _) (x y : _) (s t : _) → versioning.Post κs a x s → versioning.Post κs a y t → x ≡ y
version_determined κs a x y s t p q = alike p q

-- ---- the desk
pub open_asks_nothing : (κs : Lfts 0) (a : _) (w : World) → opening.requires κs a tt w ≡ emp w.𝓤
open_asks_nothing κs a w = refl

pub open_determined : (κs : Lfts 0) (a : _) (x y : _) (s t : _) → opening.Post κs a x s → opening.Post κs a y t → x ≡ y
open_determined κs a x y s t p q = alike p q

pub tick_asks_nothing : (κs : Lfts 1) (a : _) (w : World) → ticking.requires κs a tt w ≡ emp w.𝓤
tick_asks_nothing κs a w = refl

-- `s.1.1.0` is the journal, the third parameter, at exit
pub tick_determined : (κs : Lfts 1) (a : _) (x y : _) (s t : _) → ticking.Post κs a x s → ticking.Post κs a y t
    → (x ≡ y) × (s.1.1.0.now ≡ t.1.1.0.now)
tick_determined κs a x y s t p q = (alike p.0 q.0, alike p.1 q.1)

pub restart_asks_nothing : (κs : Lfts 0) (a : _) (w : World) → restarting.requires κs a tt w ≡ emp w.𝓤
restart_asks_nothing κs a w = refl

pub restart_determined : (κs : Lfts 0) (a : _) (x y : _) (s t : _) → restarting.Post κs a x s → restarting.Post κs a y t → x ≡ y
restart_determined κs a x y s t p q = alike p q

-- ---- a card and an answer among bytes
pub card_at_asks_nothing : (κs : Lfts 1) (a : _) (w : World) → card_reading.requires κs a tt w ≡ emp w.𝓤
card_at_asks_nothing κs a w = refl

pub card_at_determined : (κs : Lfts 1) (a : _) (x y : _) (s t : _) → card_reading.Post κs a x s → card_reading.Post κs a y t → x ≡ y
card_at_determined κs a x y s t p q = alike p q

pub card_at_reads : (κs : Lfts 1) (a : _) (last : Lasts card_read_call.ended κs a) → (at_exit card_read_call.ended κs a last).0.now ≡ a.0.now
card_at_reads κs a last = refl

pub put_card_asks_nothing : (κs : Lfts 1) (a : _) (w : World) → card_putting.requires κs a tt w ≡ emp w.𝓤
put_card_asks_nothing κs a w = refl

-- `s.1.0` are the bytes, the second parameter, at exit
pub put_card_determined : (κs : Lfts 1) (a : _) (x y : _) (s t : _) → card_putting.Post κs a x s → card_putting.Post κs a y t
    → (x ≡ y) × (s.1.0.now ≡ t.1.0.now)
put_card_determined κs a x y s t p q = (alike p.0 q.0, alike p.1 q.1)

pub answer_at_asks_nothing : (κs : Lfts 1) (a : _) (w : World) → answer_reading.requires κs a tt w ≡ emp w.𝓤
answer_at_asks_nothing κs a w = refl

pub answer_at_determined : (κs : Lfts 1) (a : _) (x y : _) (s t : _) → answer_reading.Post κs a x s → answer_reading.Post κs a y t → x ≡ y
answer_at_determined κs a x y s t p q = alike p q

pub answer_at_reads : (κs : Lfts 1) (a : _) (last : Lasts answer_read_call.ended κs a) → (at_exit answer_read_call.ended κs a last).0.now ≡ a.0.now
answer_at_reads κs a last = refl

pub put_answer_asks_nothing : (κs : Lfts 1) (a : _) (w : World) → answer_putting.requires κs a tt w ≡ emp w.𝓤
put_answer_asks_nothing κs a w = refl

pub put_answer_determined : (κs : Lfts 1) (a : _) (x y : _) (s t : _) → answer_putting.Post κs a x s → answer_putting.Post κs a y t
    → (x ≡ y) × (s.1.0.now ≡ t.1.0.now)
put_answer_determined κs a x y s t p q = (alike p.0 q.0, alike p.1 q.1)

-- ---- texts
pub text_asks_nothing : (κs : Lfts 1) (a : _) (w : World) → telling.requires κs a tt w ≡ emp w.𝓤
text_asks_nothing κs a w = refl

pub text_determined : (κs : Lfts 1) (a : _) (x y : _) (s t : _) → telling.Post κs a x s → telling.Post κs a y t → x ≡ y
text_determined κs a x y s t p q = alike p q

pub text_reads : (κs : Lfts 1) (a : _) (last : Lasts text_call.ended κs a)
    → ((at_exit text_call.ended κs a last).0.now ≡ a.0.now) × ((at_exit text_call.ended κs a last).1.0.now ≡ a.1.0.now)
text_reads κs a last = (refl, refl)
