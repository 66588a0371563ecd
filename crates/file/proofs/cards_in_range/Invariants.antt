-- `cards_in_range` keeps: the cards so far are in range.
use Rattle.std.proofs.Common.{◌≡◌, true}
use Rattle.file.specs.File.{cards_in_range}
use Rattle.file.proofs.cards_in_range.Given as goal

abbrev pub invariant-loop-i : goal.invariant-loop-i
invariant-loop-i l = cards_in_range l.file l.i ≡ true
