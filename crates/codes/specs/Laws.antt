-- Proved: the test of the codes says that they are in range, and the other way round.
-- The test taken apart into its facts, each an order that `omega` hands on. Assumes nothing.
use mathlib.Core.Path.{◌≡◌}
use mathlib.Core.Bool.{true}
use native.Mathlib.Omega.{arith}
use denote.Struct.Props.{props}
use Rattle.ranges.specs.Ranged.{RangedLaws}
use Rattle.numbers.proofs.Tests.{and_iff, leb_iff}
use Rattle.codes.specs.declared.Codes.{Codes}
use Rattle.codes.specs.Ranges.{CodesRanges, codes_in_range}

pub codes_ranges : (c : Codes) → codes_in_range c ≡ true → CodesRanges c
codes_ranges c h = omega (arith, simp (and_iff, leb_iff) at h)

pub ranges_codes : (c : Codes) → CodesRanges c → codes_in_range c ≡ true
ranges_codes c h = simp (and_iff, leb_iff) (omega arith)

pub codes_laws : RangedLaws CodesRanges codes_in_range
codes_laws = record { tested = codes_ranges; tests = ranges_codes; one_proof = λ c. Prim.hlevel props }
