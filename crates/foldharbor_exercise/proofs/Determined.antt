-- The calls on an exercise ask nothing of their caller, and their contracts determine what they return and every lent byte.
-- How to read these lines: `Determined` of `foldharbor`.
use mathlib.Core.Path.{◌≡◌, refl}
use base.Logic.{emp}
use contract.Lifetimes.{Lfts}
use borrow.Fn.World.{World}
use denote.Triple.Clauses.{Lasts, at_exit}
use Rattle.numbers.proofs.Alike.{alike}
use Rattle.foldharbor_exercise.specs.contracts.foldharbor_read_exercise as read_call
use Rattle.foldharbor_exercise.proofs.foldharbor_read_exercise.Reads as reading
use Rattle.foldharbor_exercise.specs.contracts.foldharbor_run_exercise as run_call
use Rattle.foldharbor_exercise.proofs.foldharbor_run_exercise.Reads as running

pub read_asks_nothing : (κs : Lfts 1) (a : _) (w : World) → reading.requires κs a tt w ≡ emp w.𝓤
read_asks_nothing κs a w = refl

pub read_determined : (κs : Lfts 1) (a : _) (x y : _) (s t : _) → reading.Post κs a x s → reading.Post κs a y t → x ≡ y
read_determined κs a x y s t p q = alike p q

pub read_reads : (κs : Lfts 1) (a : _) (last : Lasts read_call.ended κs a) → (at_exit read_call.ended κs a last).0.now ≡ a.0.now
read_reads κs a last = refl

pub run_asks_nothing : (κs : Lfts 2) (a : _) (w : World) → running.requires κs a tt w ≡ emp w.𝓤
run_asks_nothing κs a w = refl

-- `s.1.1.0` is the buffer, the third parameter, at exit
pub run_determined : (κs : Lfts 2) (a : _) (x y : _) (s t : _) → running.Post κs a x s → running.Post κs a y t
    → (x ≡ y) × (s.1.1.0.now ≡ t.1.1.0.now)
run_determined κs a x y s t p q = (alike p.0 q.0, alike p.1 q.1)

pub run_reads : (κs : Lfts 2) (a : _) (last : Lasts run_call.ended κs a) → (at_exit run_call.ended κs a last).0.now ≡ a.0.now
run_reads κs a last = refl
