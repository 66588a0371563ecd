-- The contracts of `is_utf8` and `characters` determine their results: two that satisfy one are equal.
-- They ask nothing of their caller. `requires` and `Post` are the contract as the check reads it off the source.
use mathlib.Core.Path.{◌≡◌, refl}
use base.Logic.{emp}
use contract.Lifetimes.{Lfts}
use borrow.Fn.World.{World}
use Rattle.numbers.proofs.Alike.{alike, alike_yes}
use Rattle.utf8.proofs.is_utf8.Reads as testing
use Rattle.utf8.proofs.characters.Reads as counting

pub is_utf8_asks_nothing : (κs : Lfts 1) (a : _) (w : World) → testing.requires κs a tt w ≡ emp w.𝓤
is_utf8_asks_nothing κs a w = refl

pub is_utf8_determined : (κs : Lfts 1) (a : _) (x y : _) (s t : _) → testing.Post κs a x s → testing.Post κs a y t → x ≡ y
is_utf8_determined κs a x y s t p q = alike_yes x y p q

pub characters_asks_nothing : (κs : Lfts 1) (a : _) (w : World) → counting.requires κs a tt w ≡ emp w.𝓤
characters_asks_nothing κs a w = refl

pub characters_determined : (κs : Lfts 1) (a : _) (x y : _) (s t : _) → counting.Post κs a x s → counting.Post κs a y t → x ≡ y
characters_determined κs a x y s t p q = alike p q
