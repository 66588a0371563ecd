-- Proved: the test of a desk says that it is in range, and the other way round.
-- The test taken apart, and those of its card and its state by their own laws. Assumes nothing.
use mathlib.Core.Path.{◌≡◌}
use mathlib.Core.Bool.{true}
use denote.Struct.Props.{props}
use Rattle.ranges.specs.Ranged.{RangedLaws}
use Rattle.numbers.proofs.Tests.{and_iff, leb_iff}
use Rattle.card.specs.Laws.{card_ranges, ranges_card, card_laws}
use Rattle.state.specs.Laws.{state_ranges, ranges_state, state_laws}
use Rattle.desk.specs.declared.Desk.{Desk}
use Rattle.desk.specs.Desk.{DeskRanges, desk_in_range}

pub desk_ranges : (d : Desk) → desk_in_range d ≡ true → DeskRanges d
unfolding desk_in_range
desk_ranges d h =
    let f = simp (and_iff, leb_iff) at h in
    record { card = card_ranges d.card f.0.0; n_most = f.0.1; state = state_ranges d.state f.1 }

pub ranges_desk : (d : Desk) → DeskRanges d → desk_in_range d ≡ true
unfolding desk_in_range
ranges_desk d h = simp (and_iff, leb_iff) ((ranges_card _ h.card, h.n_most), ranges_state _ h.state)

pub desk_laws : RangedLaws DeskRanges desk_in_range
desk_laws =
    record {
      tested = desk_ranges;
      tests = ranges_desk;
      one_proof = λ d. Prim.hlevel (props, card_laws.one_proof, state_laws.one_proof);
    }
