-- The u32 of its two u16.
use native.Mathlib.Nat.{add_assoc}
use Rattle.script.specs.Sample.{u32_at}
use Rattle.script.proofs.u32_at.Goals as goal

pub returns : goal.returns
unfolding u32_at
returns c = rw (add_assoc, ← c.u16_at-low.ensures, ← c.u16_at-high.ensures)
