-- The rows before are written.
use Rattle.std.specs.Io.KnownBytes.{Appends}
use Rattle.listing.specs.Printed.{rows}
use Rattle.listing.proofs.show_all.Given as goal

abbrev pub invariant-loop-number : goal.invariant-loop-number
invariant-loop-number g l = Appends (g.W.Write.contents l.initial.out) (g.W.Write.contents l.out) (rows l.tables.first.now l.tables.second.now l.width l.number)
