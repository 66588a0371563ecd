-- What an answer says of the causes that the state holds: its byte is their mask, its last two bytes their lowest number and their count;
-- and a mask is above 0 exactly when a cause is in it. By the definition of a tick and the law of masks. Assumes nothing.
use Prim.Native.Nat.{ℕ, zero, suc, ◌≤◌, ◌<◌}
use native.Mathlib.Omega.{arith}
use mathlib.Core.Path.{◌≡◌, refl, sym, ap, ◌∙◌}
use mathlib.Core.Bool.{true, not}
use mathlib.Core.Logic.{◌↔◌}
use mathlib.Core.List.{List, [], ◌∷◌}
use lib.Dec.{eqb}
use lib.Count.{ones, ones_in}
use lib.ListN.{length}
use borrow.Author.Tests.{ltb-true, lt-ltb}
use Rattle.card.specs.declared.Card.{Card}
use Rattle.record.specs.declared.Record.{Record}
use Rattle.causes.specs.Held.{held_in, listed, lowest, how_many}
use Rattle.causes.proofs.Masks.{held_mask, some_held, lowest_none, count_is}
use Rattle.causes.proofs.Keeps.{mask_of_most}
use Rattle.state.specs.declared.State.{State}
use Rattle.state.specs.State.{fresh_state}
use Rattle.state.specs.Mode.{step_1_mode}
use Rattle.rules.specs.declared.Answer.{Answer}
use Rattle.rules.specs.Answer.{no_answer}
use Rattle.rules.specs.Tick.{held_next, answer_now, state_next, steps_2_to_10, advance}
use Rattle.rules.specs.After.{after}

pub record Shows (a : Answer) (s : State) : Type 0 where
  pub causes : a.causes ≡ s.causes
  pub most : s.causes ≤ 31
  pub lowest : a.lowest ≡ lowest s.causes
  pub held : a.held ≡ how_many s.causes

pub advance_shows : (card : Card) (s : State) (r : Record) → Shows (advance card s r).answer (advance card s r).state
unfolding answer_now state_next steps_2_to_10 advance
advance_shows card s r = record { causes = refl; most = mask_of_most (held_next card (step_1_mode s r) r); lowest = refl; held = refl }

-- the mask is that of the causes that step 10 holds
pub advance_held : (card : Card) (s : State) (r : Record) → held_in (advance card s r).state.causes ≡ held_next card (step_1_mode s r) r
unfolding state_next steps_2_to_10 advance
advance_held card s r = held_mask (held_next card (step_1_mode s r) r)

pub none_shows : Shows no_answer fresh_state
unfolding ones ones_in
none_shows = record { causes = refl; most = omega arith; lowest = sym lowest_none; held = (count_is 0 (omega arith)).0 }

pub after_shows : (card : Card) (H : ℕ → Record) (m : ℕ) → Shows (after card H m).answer (after card H m).state
unfolding after
after_shows card H zero = none_shows
after_shows card H (suc m) = advance_shows card (after card H m).state (H m)

-- the valve: a mask above 0, a cause in the list
pub mask_held : (m : ℕ) → m ≤ 31 → (not (eqb m 0) ≡ true) ↔ (listed (held_in m) ≡ [] → ⊥)
unfolding how_many
mask_held m h = (
  λ e n. let l = ltb-true 0 (how_many m) (sym (some_held m h) ∙ e) in let z : how_many m ≡ 0 = ap length n in omega arith,
  λ n. some_held m h ∙ lt-ltb 0 (how_many m) (longer (listed (held_in m)) n),
)
  where
    longer : (l : List ℕ) → (l ≡ [] → ⊥) → 0 < length l
    longer [] n = absurd (n refl)
    longer (x ∷ l) n = omega arith
