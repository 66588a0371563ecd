-- A drive by its count of records: one more is one tick more, its state is in range, and no record past the count matters.
-- By the tick's law, and by induction on the count. Assumes nothing.
use Prim.Native.Nat.{ℕ, zero, suc, ◌+◌, ◌<◌}
use mathlib.Core.Path.{◌≡◌, refl, ap, ap₂}
use native.Mathlib.Numerals.{add-one}
use native.Mathlib.Omega.{arith}
use Rattle.card.specs.declared.Card.{Card}
use Rattle.card.specs.Card.{CardRanges}
use Rattle.record.specs.declared.Record.{Record}
use Rattle.record.specs.Record.{RecordRanges}
use Rattle.rules.specs.declared.AfterTick.{AfterTick}
use Rattle.state.specs.State.{StateRanges}
use Rattle.rules.specs.Tick.{advance}
use Rattle.rules.specs.After.{after}
use Rattle.state.proofs.Ranges.{fresh_ranges}
use Rattle.rules.proofs.Keeps.{advance_keeps}

pub after_next : (card : Card) (H : ℕ → Record) (m : ℕ) → after card H (m + 1) ≡ advance card (after card H m).state (H m)
unfolding after
after_next card H m = ap (after card H) (add-one m)

pub after_ranges : (card : Card) (H : ℕ → Record) (m : ℕ) → CardRanges card → ((i : ℕ) → i < m → RecordRanges (H i))
    → StateRanges (after card H m).state
unfolding after
after_ranges card H zero good fits = fresh_ranges
after_ranges card H (suc m) good fits =
    advance_keeps _ _ _ good (after_ranges card H m good (λ i l. fits i (omega arith))) (fits m (omega arith))

pub after_same : (card : Card) (H K : ℕ → Record) (m : ℕ) → ((i : ℕ) → i < m → H i ≡ K i) → after card H m ≡ after card K m
unfolding after
after_same card H K zero same = refl
after_same card H K (suc m) same =
    ap₂ (λ (a : AfterTick) (r : Record). advance card a.state r) (after_same card H K m (λ i l. same i (omega arith))) (same m (omega arith))
