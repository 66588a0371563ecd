-- Proved: the test of a record says that it is in range, and the other way round.
-- The test taken apart into its facts, each an order that `omega` hands on. Assumes nothing.
use mathlib.Core.Path.{◌≡◌}
use mathlib.Core.Bool.{true}
use native.Mathlib.Omega.{arith}
use denote.Struct.Props.{props}
use Rattle.ranges.specs.Ranged.{RangedLaws}
use Rattle.numbers.proofs.Tests.{and_iff, leb_iff}
use Rattle.record.specs.declared.Record.{Record}
use Rattle.record.specs.Record.{RecordRanges, record_in_range}

pub record_ranges : (r : Record) → record_in_range r ≡ true → RecordRanges r
unfolding record_in_range
record_ranges r h = omega (arith, simp (and_iff, leb_iff) at h)

pub ranges_record : (r : Record) → RecordRanges r → record_in_range r ≡ true
unfolding record_in_range
ranges_record r h = simp (and_iff, leb_iff) (omega arith)

pub record_laws : RangedLaws RecordRanges record_in_range
record_laws = record { tested = record_ranges; tests = ranges_record; one_proof = λ r. Prim.hlevel props }
