-- A host that keeps card, n and journal of a drive has all that a step back looks at: of two desks in range with the same card and n it makes the same,
-- whatever their states are. Assumes nothing.
use Prim.Native.Nat.{ℕ}
use mathlib.Core.Path.{◌≡◌}
use mathlib.Core.Bool.{true}
use mathlib.Core.List.{List}
use Rattle.desk.specs.declared.Desk.{Desk}
use Rattle.desk.specs.Desk.{desk_in_range}
use Rattle.desk.specs.Calls.{desk_refusal, back_refusal, back_outcome}

module _ (d e : Desk) (good : desk_in_range d ≡ true) (good-too : desk_in_range e ≡ true) (cards : d.card ≡ e.card) (counts : d.n ≡ e.n) where
  pub back_refused_alike : (k : ℕ) (journal : List ℕ) → back_refusal d k journal ≡ back_refusal e k journal
  unfolding back_refusal desk_refusal
  back_refused_alike k journal = rw (good, good-too, counts)

  pub back_alike : (k : ℕ) (journal : List ℕ) → back_refusal d k journal ≡ 0 → back_outcome d k journal ≡ back_outcome e k journal
  unfolding back_outcome
  back_alike k journal taken = rw (← back_refused_alike k journal, taken, cards, counts)
