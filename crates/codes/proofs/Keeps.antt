-- Steps 2 and 3 keep the codes in range, and a target is a speed in range.
-- Each choice is bounded arm by arm; an arm that counts on by its own test. Assumes nothing.
use Prim.Native.Nat.{ℕ, ◌≤◌}
use native.Mathlib.Omega.{arith}
use borrow.Author.Tests.{ltb-true}
use Rattle.numbers.proofs.Choice.{most_iff}
use Rattle.numbers.proofs.Tests.{and_iff}
use Rattle.reading.specs.Speed.{top_speed}
use Rattle.card.specs.declared.Card.{Card}
use Rattle.card.specs.Card.{CardRanges}
use Rattle.record.specs.declared.Record.{Record}
use Rattle.record.specs.declared.Keys.{Keys}
use Rattle.record.specs.Record.{RecordRanges}
use Rattle.record.specs.Codes.{clear}
use Rattle.codes.specs.declared.Codes.{Codes}
use Rattle.codes.specs.Ranges.{longest_gap, most_raise, CodesRanges}
use Rattle.codes.specs.Target.{target}
use Rattle.codes.specs.Gap.{interrupted_next, gap_next}
use Rattle.codes.specs.Plus.{raise_by_code, step_3_plus, codes_next}

pub target_most : (card : Card) (code raise : ℕ) → CardRanges card → raise ≤ most_raise → target card code raise ≤ top_speed
unfolding target
target_most card code raise good few = simp most_iff (omega arith)

module _ (c : Codes) (r : Record) (k : Keys) (good : CodesRanges c) (fits : RecordRanges r) where
  interrupted_next_most : interrupted_next c r ≤ clear
  unfolding interrupted_next
  interrupted_next_most = simp most_iff (omega arith)

  gap_next_most : gap_next c r ≤ longest_gap
  unfolding gap_next
  gap_next_most = simp most_iff (omega arith)

  step_3_plus_most : step_3_plus c r k ≤ most_raise
  unfolding step_3_plus raise_by_code
  step_3_plus_most = simp (most_iff, and_iff) (omega (arith, ltb-true))

  pub codes_next_ranges : CodesRanges (codes_next c r k)
  unfolding codes_next
  codes_next_ranges = omega (arith, interrupted_next_most, gap_next_most, step_3_plus_most)
