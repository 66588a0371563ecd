-- Proved: the test of a state says that it is in range, and the other way round.
-- The test taken apart into its facts and the tests of its parts. Assumes nothing.
use mathlib.Core.Path.{◌≡◌}
use mathlib.Core.Bool.{true}
use denote.Struct.Props.{props}
use Rattle.ranges.specs.Ranged.{RangedLaws}
use Rattle.numbers.proofs.Tests.{and_iff, leb_iff}
use Rattle.signal.specs.Laws.{signal_ranges, ranges_signal}
use Rattle.cyclic.specs.Laws.{cyclic_ranges}
use Rattle.onetime.specs.Laws.{prompt_ranges}
use Rattle.state.specs.declared.State.{State}
use Rattle.state.specs.State.{StateRanges, state_in_range}

pub state_ranges : (s : State) → state_in_range s ≡ true → StateRanges s
unfolding state_in_range
state_ranges s h = let f = simp (and_iff, leb_iff) at h in search (signal_ranges, prompt_ranges, cyclic_ranges)

pub ranges_state : (s : State) → StateRanges s → state_in_range s ≡ true
unfolding state_in_range
ranges_state s h = simp (and_iff, leb_iff) (search ranges_signal)

pub state_laws : RangedLaws StateRanges state_in_range
state_laws = record { tested = state_ranges; tests = ranges_state; one_proof = λ s. Prim.hlevel props }
