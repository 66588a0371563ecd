-- So far it is the widest of the texts before.
use Rattle.std.proofs.Common.{◌≡◌}
use Rattle.listing.specs.Printed.{widest}
use Rattle.listing.proofs.widest.Given as goal

abbrev pub invariant-loop-number : goal.invariant-loop-number
invariant-loop-number l = l.most ≡ widest l.tables.first.now l.tables.second.now l.number
