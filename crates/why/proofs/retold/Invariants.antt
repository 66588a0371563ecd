-- `retold` keeps: the records so far are in range, the state is that after them, the starts are those after them.
use Rattle.std.proofs.Common.{◌≡◌, true}
use Rattle.state.specs.State.{StateRanges}
use Rattle.rules.specs.After.{after}
use Rattle.journal.specs.Journal.{records, all_in_range}
use Rattle.why.specs.Told.{starts_after}
use Rattle.why.proofs.retold.Given as goal

abbrev pub invariant-loop-i : goal.invariant-loop-i
invariant-loop-i l =
    record {
      good : all_in_range l.journal l.i ≡ true;
      ranges : StateRanges l.state;
      reached : l.state ≡ (after l.card.it (records l.journal) l.i).state;
      begun : l.starts ≡ starts_after l.card.it l.journal l.i;
    }
