-- Step 9 keeps the wrong way and the standing in range.
-- Each choice is bounded arm by arm. Assumes nothing.
use Prim.Native.Nat.{ℕ, ◌≤◌}
use mathlib.Core.Bool.{Bool}
use native.Mathlib.Omega.{arith}
use Rattle.numbers.proofs.Choice.{most_iff}
use Rattle.card.specs.declared.Card.{Card}
use Rattle.card.specs.Card.{CardRanges, long_wait}
use Rattle.card.proofs.Ranges.{wait_between}
use Rattle.record.specs.declared.Record.{Record}
use Rattle.record.specs.declared.Keys.{Keys}
use Rattle.motion.specs.Direction.{most_wrongway, wrongway_now}
use Rattle.motion.specs.Standing.{counted, standing_now}

pub wrongway_now_most : (mode : ℕ) (r : Record) (k : Keys) (d : ℕ) → d ≤ most_wrongway → wrongway_now mode r k d ≤ most_wrongway
unfolding wrongway_now
wrongway_now_most mode r k d p = simp most_iff (omega arith)

pub standing_now_most : (card : Card) (mode : ℕ) (r : Record) (k : Keys) (held : Bool) (h : ℕ) → CardRanges card → h ≤ long_wait
    → standing_now card mode r k held h ≤ long_wait
unfolding counted standing_now
standing_now_most card mode r k held h good p = simp most_iff (omega (arith, wait_between card good))
