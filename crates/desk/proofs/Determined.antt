-- Each call's contract asks nothing of its caller and determines its result and every lent byte: two outcomes that satisfy it are equal.
-- `requires` and `Post` are the contract as the check reads it off the source: a `requires`, or an `ensures` that says less, breaks these lines.
-- `at_exit` is what the parameters hold afterwards, by their types: a slice that is lent to be read holds what it held.
use mathlib.Core.Path.{◌≡◌, refl}
use base.Logic.{emp}
use contract.Lifetimes.{Lfts}
use borrow.Fn.World.{World}
use denote.Triple.Clauses.{Lasts, at_exit}
use Rattle.numbers.proofs.Alike.{alike}
use Rattle.desk.proofs.Desk.open.Reads as opening
use Rattle.desk.proofs.Desk.tick.Reads as ticking
use Rattle.desk.specs.contracts.Desk.step_back.{ended}
use Rattle.desk.proofs.Desk.step_back.Reads as backing
use Rattle.desk.proofs.Desk.restart.Reads as restarting

pub open_asks_nothing : (κs : Lfts 0) (a : _) (w : World) → opening.requires κs a tt w ≡ emp w.𝓤
open_asks_nothing κs a w = refl

pub open_determined : (κs : Lfts 0) (a : _) (x y : _) (s t : _) → opening.Post κs a x s → opening.Post κs a y t → x ≡ y
open_determined κs a x y s t p q = alike p q

pub tick_asks_nothing : (κs : Lfts 1) (a : _) (w : World) → ticking.requires κs a tt w ≡ emp w.𝓤
tick_asks_nothing κs a w = refl

-- `s.1.1.0` is the journal, the third parameter, at exit
pub tick_determined : (κs : Lfts 1) (a : _) (x y : _) (s t : _) → ticking.Post κs a x s → ticking.Post κs a y t
    → (x ≡ y) × (s.1.1.0.now ≡ t.1.1.0.now)
tick_determined κs a x y s t p q = (alike p.0 q.0, alike p.1 q.1)

pub step_back_asks_nothing : (κs : Lfts 1) (a : _) (w : World) → backing.requires κs a tt w ≡ emp w.𝓤
step_back_asks_nothing κs a w = refl

pub step_back_determined : (κs : Lfts 1) (a : _) (x y : _) (s t : _) → backing.Post κs a x s → backing.Post κs a y t → x ≡ y
step_back_determined κs a x y s t p q = alike p q

-- the journal
pub step_back_reads : (κs : Lfts 1) (a : _) (last : Lasts ended κs a) → (at_exit ended κs a last).1.1.0.now ≡ a.1.1.0.now
step_back_reads κs a last = refl

pub restart_asks_nothing : (κs : Lfts 0) (a : _) (w : World) → restarting.requires κs a tt w ≡ emp w.𝓤
restart_asks_nothing κs a w = refl

pub restart_determined : (κs : Lfts 0) (a : _) (x y : _) (s t : _) → restarting.Post κs a x s → restarting.Post κs a y t → x ≡ y
restart_determined κs a x y s t p q = alike p q
