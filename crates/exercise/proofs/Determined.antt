-- The contract of `run` determines its result and every lent byte: two outcomes that satisfy it are equal.
-- `requires` and `Post` are the contract as the check reads it off the source: a `requires`, or an `ensures` that says less, breaks these lines.
-- `at_exit` is what the parameters hold afterwards, by their types: a slice that is lent to be read holds what it held.
use mathlib.Core.Path.{◌≡◌, refl}
use base.Logic.{emp}
use contract.Lifetimes.{Lfts}
use borrow.Fn.World.{World}
use denote.Triple.Clauses.{Lasts, at_exit}
use Rattle.numbers.proofs.Alike.{alike}
use Rattle.exercise.specs.contracts.run.{ended}
use Rattle.exercise.proofs.run.Reads as running

pub run_asks_nothing : (κs : Lfts 2) (a : _) (w : World) → running.requires κs a tt w ≡ emp w.𝓤
run_asks_nothing κs a w = refl

-- `s.1.1.0` is the buffer, the third parameter, at exit
pub run_determined : (κs : Lfts 2) (a : _) (x y : _) (s t : _) → running.Post κs a x s → running.Post κs a y t
    → (x ≡ y) × (s.1.1.0.now ≡ t.1.1.0.now)
run_determined κs a x y s t p q = (alike p.0 q.0, alike p.1 q.1)

-- the file
pub run_reads : (κs : Lfts 2) (a : _) (last : Lasts ended κs a) → (at_exit ended κs a last).0.now ≡ a.0.now
run_reads κs a last = refl
