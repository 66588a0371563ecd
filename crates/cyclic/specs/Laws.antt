-- Proved: the test of cyclic vigilance says that it is in range, and the other way round.
-- The test taken apart into its facts, each an order that `omega` hands on. Assumes nothing.
use mathlib.Core.Path.{◌≡◌}
use mathlib.Core.Bool.{true}
use native.Mathlib.Omega.{arith}
use denote.Struct.Props.{props}
use Rattle.ranges.specs.Ranged.{RangedLaws}
use Rattle.numbers.proofs.Tests.{and_iff, leb_iff}
use Rattle.cyclic.specs.declared.Cyclic.{Cyclic}
use Rattle.cyclic.specs.Ranges.{CyclicRanges, cyclic_in_range}

pub cyclic_ranges : (w : Cyclic) → cyclic_in_range w ≡ true → CyclicRanges w
cyclic_ranges w h = omega (arith, simp (and_iff, leb_iff) at h)

pub ranges_cyclic : (w : Cyclic) → CyclicRanges w → cyclic_in_range w ≡ true
ranges_cyclic w h = simp (and_iff, leb_iff) (omega arith)

pub cyclic_laws : RangedLaws CyclicRanges cyclic_in_range
cyclic_laws = record { tested = cyclic_ranges; tests = ranges_cyclic; one_proof = λ w. Prim.hlevel props }
