-- The step back asks nothing of its caller, and its contract determines what it returns; the journal, lent to be read, holds what it held.
-- How to read these lines: `Determined` of `foldharbor`.
use mathlib.Core.Path.{◌≡◌, refl}
use base.Logic.{emp}
use contract.Lifetimes.{Lfts}
use borrow.Fn.World.{World}
use denote.Triple.Clauses.{Lasts, at_exit}
use Rattle.numbers.proofs.Alike.{alike}
use Rattle.foldharbor_back.specs.contracts.foldharbor_step_back as back_call
use Rattle.foldharbor_back.proofs.foldharbor_step_back.Reads as backing

pub step_back_asks_nothing : (κs : Lfts 1) (a : _) (w : World) → backing.requires κs a tt w ≡ emp w.𝓤
step_back_asks_nothing κs a w = refl

pub step_back_determined : (κs : Lfts 1) (a : _) (x y : _) (s t : _) → backing.Post κs a x s → backing.Post κs a y t → x ≡ y
step_back_determined κs a x y s t p q = alike p q

pub step_back_reads : (κs : Lfts 1) (a : _) (last : Lasts back_call.ended κs a) → (at_exit back_call.ended κs a last).1.1.0.now ≡ a.1.1.0.now
step_back_reads κs a last = refl
