-- Step 7 keeps cyclic vigilance in range.
-- Each choice is bounded arm by arm; an arm that counts on by its own test. Assumes nothing.
use Prim.Native.Nat.{ℕ, ◌≤◌}
use native.Mathlib.Omega.{arith}
use borrow.Author.Tests.{leb-false}
use Rattle.numbers.proofs.Choice.{most_iff}
use Rattle.numbers.proofs.Tests.{neither_iff}
use Rattle.card.specs.declared.Card.{Card}
use Rattle.card.specs.Card.{CardRanges, most_cycle}
use Rattle.record.specs.declared.Record.{Record}
use Rattle.record.specs.declared.Keys.{Keys}
use Rattle.signal.specs.declared.Signal.{Signal}
use Rattle.cyclic.specs.declared.Cyclic.{Cyclic}
use Rattle.cyclic.specs.Ranges.{CyclicRanges, increased, longest_count}
use Rattle.cyclic.specs.Cyclic.{cyclic_kind, cycle_length, cyclic_ticks, step_7_cyclic}

pub cyclic_kind_most : (mode : ℕ) (s : Signal) (r : Record) (k : Keys) → cyclic_kind mode s r k ≤ increased
unfolding cyclic_kind
cyclic_kind_most mode s r k = simp most_iff (omega arith)

module _ (card : Card) (kind : ℕ) (card_good : CardRanges card) where
  cycle_length_most : cycle_length card kind ≤ most_cycle
  unfolding cycle_length
  cycle_length_most = simp most_iff (omega arith)

  module _ (w : Cyclic) (k : Keys) where
    pub cyclic_ticks_most : cyclic_ticks card kind w k ≤ longest_count
    unfolding cyclic_ticks
    cyclic_ticks_most = simp (most_iff, neither_iff) (omega (arith, leb-false, cycle_length_most))

    pub step_7_cyclic_ranges : kind ≤ increased → CyclicRanges (step_7_cyclic card kind w k).cyclic
    step_7_cyclic_ranges p = omega (arith, cyclic_ticks_most)
