-- One record more: the tick at which a cause's holding began, and the starts of the five.
-- By the law of the last number that passes a test.
use Prim.Native.Nat.{ℕ, ◌+◌, ◌-◌}
use mathlib.Core.Path.{◌≡◌, refl, ◌∙◌}
use mathlib.Core.List.{List}
use native.Mathlib.Omega.{arith}
use Rattle.numbers.proofs.Last.{last_next}
use Rattle.card.specs.declared.Card.{Card}
use Rattle.record.specs.declared.Record.{Record}
use Rattle.causes.specs.Cause.{Cause, NZ1, NZ2, NZ3, NZ4, NZ5, among}
use Rattle.rules.specs.After.{after}
use Rattle.journal.specs.Journal.{records}
use Rattle.numbers.specs.Last.{last_of}
use Rattle.why.specs.Why.{held_after, made_held, began}
use Rattle.why.specs.Told.{no_starts, start_at, starts_at, starts_after}

pub began_next : (card : Card) (H : ℕ → Record) (cause : Cause) (n : ℕ)
    → began card H cause (n + 1) ≡ start_at (n + 1) (held_after card H cause n) (held_after card H cause (n + 1)) (began card H cause n)
unfolding began
began_next card H cause n = last_next (made_held card H cause) n ∙ (let e : n + 1 - 1 ≡ n = omega arith in rw e)

module _ (card : Card) (journal : List ℕ) where
  pub starts_none : starts_after card journal 0 ≡ no_starts
  unfolding starts_after began last_of
  starts_none = refl

  pub starts_next : (n : ℕ)
      → starts_after card journal (n + 1)
      ≡ starts_at (n + 1) (after card (records journal) n).state.causes (after card (records journal) (n + 1)).state.causes (starts_after card journal n)
  unfolding starts_after starts_at among
  starts_next n =
      let H = records journal in
      rw (began_next card H NZ1 n, began_next card H NZ2 n, began_next card H NZ3 n, began_next card H NZ4 n, began_next card H NZ5 n)
