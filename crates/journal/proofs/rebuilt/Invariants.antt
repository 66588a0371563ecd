-- `rebuilt`'s loop: `last` is the state and the answer after the records so far, its state in range.
use Rattle.std.proofs.Common.{◌≡◌}
use Rattle.state.specs.State.{StateRanges}
use Rattle.rules.specs.After.{after}
use Rattle.journal.specs.Journal.{records}
use Rattle.journal.proofs.rebuilt.Given as goal

abbrev pub invariant-loop-i : goal.invariant-loop-i
invariant-loop-i l = (l.last ≡ after l.card.it (records l.journal) l.i) × StateRanges l.last.state
