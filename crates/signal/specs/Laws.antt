-- Proved: the tests of a curve and of the signals say that they are in range, and the other way round.
-- The test taken apart into its facts, each an order that `omega` hands on. Assumes nothing.
use mathlib.Core.Path.{◌≡◌}
use mathlib.Core.Bool.{true}
use native.Mathlib.Omega.{arith}
use denote.Struct.Props.{props}
use Rattle.ranges.specs.Ranged.{RangedLaws}
use Rattle.numbers.proofs.Tests.{and_iff, leb_iff}
use Rattle.codes.specs.Laws.{codes_ranges, ranges_codes}
use Rattle.signal.specs.declared.Curve.{Curve}
use Rattle.signal.specs.declared.Signal.{Signal}
use Rattle.signal.specs.Ranges.{CurveRanges, curve_in_range, SignalRanges, signal_in_range}

curve_ranges : (c : Curve) → curve_in_range c ≡ true → CurveRanges c
unfolding curve_in_range
curve_ranges c h = omega (arith, simp (and_iff, leb_iff) at h)

ranges_curve : (c : Curve) → CurveRanges c → curve_in_range c ≡ true
unfolding curve_in_range
ranges_curve c h = simp (and_iff, leb_iff) (omega arith)

pub curve_laws : RangedLaws CurveRanges curve_in_range
curve_laws = record { tested = curve_ranges; tests = ranges_curve; one_proof = λ c. Prim.hlevel props }

pub signal_ranges : (s : Signal) → signal_in_range s ≡ true → SignalRanges s
unfolding signal_in_range
signal_ranges s h = let f = simp (and_iff, leb_iff) at h in search (codes_ranges, arith)

pub ranges_signal : (s : Signal) → SignalRanges s → signal_in_range s ≡ true
unfolding signal_in_range
ranges_signal s h = simp (and_iff, leb_iff) (search (ranges_codes, arith))

pub signal_laws : RangedLaws SignalRanges signal_in_range
signal_laws = record { tested = signal_ranges; tests = ranges_signal; one_proof = λ s. Prim.hlevel props }
