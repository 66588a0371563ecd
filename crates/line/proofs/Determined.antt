-- The contracts of `line_of` and `line_of_reasons` determine the result and every lent byte: two results that satisfy one are equal.
-- `requires` and `Post` are the contract as the check reads it off the source: a `requires`, or an `ensures` that says less, breaks these lines.
use mathlib.Core.Path.{◌≡◌, refl}
use base.Logic.{emp}
use contract.Lifetimes.{Lfts}
use borrow.Fn.World.{World}
use Rattle.numbers.proofs.Alike.{alike}
use Rattle.line.proofs.line_of.Reads as lining
use Rattle.line.proofs.line_of_reasons.Reads as reasoning

pub line_asks_nothing : (κs : Lfts 1) (a : _) (w : World) → lining.requires κs a tt w ≡ emp w.𝓤
line_asks_nothing κs a w = refl

-- `s.1.0` is the line's room, the second parameter, at exit
pub line_determined : (κs : Lfts 1) (a : _) (x y : _) (s t : _) → lining.Post κs a x s → lining.Post κs a y t
    → (x ≡ y) × (s.1.0.now ≡ t.1.0.now)
line_determined κs a x y s t p q = (alike p.0.0 q.0.0, alike p.1 q.1)

pub reasons_ask_nothing : (κs : Lfts 1) (a : _) (w : World) → reasoning.requires κs a tt w ≡ emp w.𝓤
reasons_ask_nothing κs a w = refl

pub reasons_determined : (κs : Lfts 1) (a : _) (x y : _) (s t : _) → reasoning.Post κs a x s → reasoning.Post κs a y t
    → (x ≡ y) × (s.1.0.now ≡ t.1.0.now)
reasons_determined κs a x y s t p q = (alike p.0.0 q.0.0, alike p.1 q.1)
