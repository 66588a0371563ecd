-- Whether two desks are equal is decided, with a proof either way.
-- By the law of the derived equality, which says yes exactly where the desks are equal.
use mathlib.Core.Path.{◌≡◌, refl}
use mathlib.Core.Bool.{Bool, true, false, false≢true}
use mathlib.Core.Logic.{◌↔◌}
use Rattle.desk.specs.declared.Desk.{Desk}
use Rattle.same.proofs.Fields.{same_desk}

unfoldable pub by_test : {P : Type 0} (b : Bool) → (b ≡ true) ↔ P → Dec P
by_test true h = yes (h.0 refl)
by_test false h = no (λ p. false≢true (h.1 p))

unfoldable pub same_desk? : (a b : Desk) → Dec (a ≡ b)
same_desk? a b = by_test _ (same_desk a b)
