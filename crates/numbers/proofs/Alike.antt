-- What an equation says of a result: two that are both a third are equal, and what holds of the third holds of each.
-- By the equation, turned round. Assumes nothing.
use mathlib.Core.Path.{◌≡◌, refl, sym, ◌∙◌}
use mathlib.Core.Logic.{◌↔◌}
use mathlib.Core.Bool.{Bool, true, false}

pub alike : {A : Type 0} {a x y : A} → x ≡ a → y ≡ a → x ≡ y
alike p q = p ∙ sym q

-- two tests that say yes exactly where one thing holds
pub alike_yes : {P : Type 0} (x y : Bool) → (x ≡ true) ↔ P → (y ≡ true) ↔ P → x ≡ y
alike_yes true y p q = sym (q.1 (p.0 refl))
alike_yes false true p q = p.1 (q.0 refl)
alike_yes false false p q = refl

pub and_so : {A : Type 0} {x a : A} (P : A → Type 0) → x ≡ a → P a → (x ≡ a) × P x
and_so P e p = (e, rw e p)
