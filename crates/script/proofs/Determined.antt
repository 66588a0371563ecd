-- Each call's contract determines its result and every lent byte: two replies that satisfy it are equal.
-- `Asked` and `Post` are the contract as the check reads it off the source: a `requires`, or an `ensures` that says less, breaks these lines.
use mathlib.Core.Path.{◌≡◌}
use contract.Lifetimes.{Lfts}
use Rattle.numbers.proofs.Alike.{alike}
use Rattle.script.proofs.open.Reads as opening
use Rattle.script.proofs.play.Reads as playing

pub open_asks_nothing : (κs : Lfts 1) (a : _) → opening.Asked κs a
open_asks_nothing κs a = tt

pub open_determined : (κs : Lfts 1) (a : _) (x y : _) (s t : _) → opening.Post κs a x s → opening.Post κs a y t → x ≡ y
open_determined κs a x y s t p q = alike p q

pub play_asks_nothing : (κs : Lfts 2) (a : _) → playing.Asked κs a
play_asks_nothing κs a = tt

-- `s.1.1.0` is the journal, the third parameter, at exit
pub play_determined : (κs : Lfts 2) (a : _) (x y : _) (s t : _) → playing.Post κs a x s → playing.Post κs a y t
    → (x ≡ y) × (s.1.1.0.now ≡ t.1.1.0.now)
play_determined κs a x y s t p q = (alike p.0 q.0, alike p.1 q.1)
