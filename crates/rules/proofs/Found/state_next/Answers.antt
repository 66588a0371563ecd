-- `state_next` meets its contract: the triggers, the mask and d by their contracts, all else is what steps 2 to 9 found.
-- The ranges are a law of the definition (`state_next_ranges`).
use Rattle.rules.specs.Tick.{releases_in, held_next, wrongway_next, state_next}
use Rattle.rules.proofs.Keeps.{state_next_ranges}
use Rattle.rules.proofs.Found.state_next.Goals as goal

pub returns : goal.returns
unfolding releases_in held_next wrongway_next state_next
returns c = rw (c.step_10_wrongway-wrongway.ensures.0, c.step_10-causes.ensures, c.triggers_in-triggered.ensures, c.args.self.found)

pub invariant_of-result : goal.invariant_of-result
unfolding releases_in held_next wrongway_next state_next
invariant_of-result c =
    let s = c.args.self in
    rw (c.step_10_wrongway-wrongway.ensures.0, c.step_10-causes.ensures, c.triggers_in-triggered.ensures, s.found)
    (record { in_range = state_next_ranges s.card.it s.state.it s.reading.it s.card.in_range s.state.in_range s.reading.in_range })
