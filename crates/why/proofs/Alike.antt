-- What is told goes by the desk, the journal's length and its first n records alone: two journals that have these alike tell the same.
-- By the law of `after`, at every tick; the record that is told is one of the n.
use Prim.Native.Nat.{ℕ, ◌-◌, ◌≤◌, ◌<◌}
use native.Mathlib.Nat.{le_refl}
use native.Mathlib.Omega.{arith}
use mathlib.Core.Path.{◌≡◌, refl, sym, ap, ap₂, ◌∙◌}
use mathlib.Core.Bool.{Bool, true, false, not, ◌&&◌}
use mathlib.Core.List.{List}
use lib.ListN.{length}
use Rattle.numbers.proofs.Last.{last_same}
use Rattle.numbers.proofs.All.{all_same}
use Rattle.card.specs.declared.Card.{Card}
use Rattle.record.specs.declared.Record.{Record}
use Rattle.record.specs.Record.{record_in_range}
use Rattle.causes.specs.Held.{held_in}
use Rattle.causes.specs.Cause.{Cause, NZ1, NZ2, NZ3, NZ4, NZ5, among}
use Rattle.rules.specs.declared.AfterTick.{AfterTick}
use Rattle.rules.proofs.After.{after_same}
use Rattle.journal.specs.Journal.{records, all_in_range}
use Rattle.desk.specs.declared.Desk.{Desk}
use Rattle.why.specs.Why.{held_after, made_held, began, reason_of, reason_after, reason_for, why_refusal, why_outcome}
use Rattle.why.proofs.Began.{began_then}

module _ (card : Card) (H K : ℕ → Record) (cause : Cause) (n : ℕ) (same : (i : ℕ) → i < n → H i ≡ K i) where
  held_same : (m : ℕ) → m ≤ n → held_after card H cause m ≡ held_after card K cause m
  held_same m h = ap (λ (a : AfterTick). among cause (held_in a.state.causes)) (after_same card H K m (λ i l. same i (omega arith)))

  began_same : began card H cause n ≡ began card K cause n
  unfolding began
  began_same =
      last_same (made_held card H cause) (made_held card K cause) n
      (λ i l. ap₂ (λ (now before : Bool). now && not before) (held_same i l) (held_same (i - 1) (omega arith)))

  reason_same : reason_after card H cause n ≡ reason_after card K cause n
  unfolding reason_of
  reason_same = go (held_after card H cause n) refl
    where
      go : (held : Bool) → held_after card H cause n ≡ held → reason_after card H cause n ≡ reason_after card K cause n
      go true e =
          let b = began_then card H cause n e in
          let first = b.first in
          let last = b.last in
          rw (e, sym (held_same n (le_refl n)) ∙ e, same (began card H cause n - 1) (omega arith), began_same)
      go false e = rw (e, sym (held_same n (le_refl n)) ∙ e)

module _ (d : Desk) (J K : List ℕ) (long : length J ≡ length K) (same : (i : ℕ) → i < d.n → records J i ≡ records K i) where
  refused_alike : why_refusal d J ≡ why_refusal d K
  unfolding why_refusal
  refused_alike =
      let good : all_in_range J d.n ≡ all_in_range K d.n = all_same _ _ d.n (λ i l. ap record_in_range (same i l)) in
      rw (long, good, after_same d.card (records J) (records K) d.n same)

  each : (cause : Cause) → reason_for d J cause ≡ reason_for d K cause
  each cause = reason_same d.card (records J) (records K) cause d.n same

  pub told_alike : why_outcome d J ≡ why_outcome d K
  unfolding why_outcome
  told_alike = rw (refused_alike, each NZ1, each NZ2, each NZ3, each NZ4, each NZ5)
