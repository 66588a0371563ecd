-- Bounds of a card's wait, for `omega`, which reads no `⊎`. Assumes nothing.
use Prim.Native.Nat.{◌≤◌}
use mathlib.Core.Logic.{⊎_elim}
use native.Mathlib.Omega.{arith}
use Rattle.card.specs.declared.Card.{Card}
use Rattle.card.specs.Card.{CardRanges, short_wait, long_wait}

pub wait_between : (c : Card) → CardRanges c → (short_wait ≤ c.wait) × (c.wait ≤ long_wait)
wait_between c h = ⊎_elim (λ e. omega arith) (λ e. omega arith) h.wait_either
