-- `all_in_range`'s loop: the records so far are in range.
use Rattle.std.proofs.Common.{◌≡◌, true}
use Rattle.journal.specs.Journal.{all_in_range}
use Rattle.journal.proofs.all_in_range.Given as goal

abbrev pub invariant-loop-i : goal.invariant-loop-i
invariant-loop-i l = all_in_range l.journal l.i ≡ true
