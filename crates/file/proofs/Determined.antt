-- The contract of `read` determines its result and every lent byte: two counts that satisfy it are equal.
-- `requires` and `Post` are the contract as the check reads it off the source: a `requires`, or an `ensures` that says less, breaks these lines.
-- `at_exit` is what the parameters hold afterwards, by their types: a slice that is lent to be read holds what it held.
use mathlib.Core.Path.{◌≡◌, refl}
use base.Logic.{emp}
use contract.Lifetimes.{Lfts}
use borrow.Fn.World.{World}
use denote.Triple.Clauses.{Lasts, at_exit}
use Rattle.numbers.proofs.Alike.{alike}
use Rattle.file.specs.contracts.read.{ended}
use Rattle.file.proofs.read.Reads as reading

pub read_asks_nothing : (κs : Lfts 1) (a : _) (w : World) → reading.requires κs a tt w ≡ emp w.𝓤
read_asks_nothing κs a w = refl

pub read_determined : (κs : Lfts 1) (a : _) (x y : _) (s t : _) → reading.Post κs a x s → reading.Post κs a y t → x ≡ y
read_determined κs a x y s t p q = alike p q

pub read_reads : (κs : Lfts 1) (a : _) (last : Lasts ended κs a) → (at_exit ended κs a last).0.now ≡ a.0.now
read_reads κs a last = refl
