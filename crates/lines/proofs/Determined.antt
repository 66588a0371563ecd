-- The contract of `make` determines what it returns and every byte of the buffer: two outcomes that satisfy it are equal.
-- It asks nothing of its caller. `requires` and `Post` are the contract as the check reads it off the source;
-- `s.1.0` is the buffer, the second parameter, at exit.
-- `at_exit` is what the parameters hold afterwards, by their types: a slice that is lent to be read holds what it held.
use mathlib.Core.Path.{◌≡◌, refl}
use base.Logic.{emp}
use contract.Lifetimes.{Lfts}
use borrow.Fn.World.{World}
use denote.Triple.Clauses.{Lasts, at_exit}
use Rattle.numbers.proofs.Alike.{alike}
use Rattle.lines.specs.contracts.make.{ended}
use Rattle.lines.proofs.make.Reads as making

pub make_asks_nothing : (κs : Lfts 2) (a : _) (w : World) → making.requires κs a tt w ≡ emp w.𝓤
make_asks_nothing κs a w = refl

pub make_determined : (κs : Lfts 2) (a : _) (x y : _) (s t : _) → making.Post κs a x s → making.Post κs a y t
    → (x ≡ y) × (s.1.0.now ≡ t.1.0.now)
make_determined κs a x y s t p q = (alike p.0 q.0, alike p.1 q.1)

-- the text
pub make_reads : (κs : Lfts 2) (a : _) (last : Lasts ended κs a) → (at_exit ended κs a last).0.now ≡ a.0.now
make_reads κs a last = refl
