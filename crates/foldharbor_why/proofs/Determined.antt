-- The call that tells why asks nothing of its caller, and its contract determines what it returns; the journal, lent to be read, holds what it held.
-- How to read these lines: `Determined` of `foldharbor`.
use mathlib.Core.Path.{◌≡◌, refl}
use base.Logic.{emp}
use contract.Lifetimes.{Lfts}
use borrow.Fn.World.{World}
use denote.Triple.Clauses.{Lasts, at_exit}
use Rattle.numbers.proofs.Alike.{alike}
use Rattle.foldharbor_why.specs.contracts.foldharbor_why as why_call
use Rattle.foldharbor_why.proofs.foldharbor_why.Reads as telling

pub why_asks_nothing : (κs : Lfts 1) (a : _) (w : World) → telling.requires κs a tt w ≡ emp w.𝓤
why_asks_nothing κs a w = refl

pub why_determined : (κs : Lfts 1) (a : _) (x y : _) (s t : _) → telling.Post κs a x s → telling.Post κs a y t → x ≡ y
why_determined κs a x y s t p q = alike p q

pub why_reads : (κs : Lfts 1) (a : _) (last : Lasts why_call.ended κs a) → (at_exit why_call.ended κs a last).1.0.now ≡ a.1.0.now
why_reads κs a last = refl
