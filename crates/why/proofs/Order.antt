-- The refusal that the desk comes to which the records rebuild: each test that fails gives its number, in their order.
-- By the chain of numbers, first to last; `same_desk` decides as `same_desk?` does.
use Rattle.std.proofs.Common.{◌≡◌, ◌↔◌, true, false, Bool, sym, ◌∙◌}
use borrow.Author.Tests.{ne_eqb}
use Rattle.numbers.proofs.Tests.{decided}
use Rattle.refusal.specs.Refusal.{other_desk, valve_closed}
use Rattle.desk.specs.declared.Desk.{Desk}
use Rattle.same.proofs.Desks.{same_desk?}
use Rattle.why.specs.declared.Told.{Told}
use Rattle.why.specs.Why.{rebuilt_refusal}
use Rattle.why.specs.Told.{retold_refusal}

module _ (desk : Desk) (told : Told) where
  abbrev again : Desk
  again = record { card = desk.card; n = desk.n; state = told.state }

  module _ (same : Bool) (is : (same ≡ true) ↔ (desk ≡ again)) where
    pub other_told : same ≡ false → other_desk ≡ retold_refusal desk told
    unfolding retold_refusal rebuilt_refusal
    other_told h = let other = sym (decided (same_desk? _ _) _ is) ∙ h in simp other

    pub closed_told : same ≡ true → desk.state.causes ≡ 0 → valve_closed ≡ retold_refusal desk told
    unfolding retold_refusal rebuilt_refusal
    closed_told h e = let alike = sym (decided (same_desk? _ _) _ is) ∙ h in simp (alike, e)

    pub taken_told : same ≡ true → (desk.state.causes ≡ 0 → ⊥) → 0 ≡ retold_refusal desk told
    unfolding retold_refusal rebuilt_refusal
    taken_told h n = let alike = sym (decided (same_desk? _ _) _ is) ∙ h in simp (alike, ne_eqb _ _ n)

pub ruleset told = (other_told, closed_told, taken_told)
