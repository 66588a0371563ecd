-- So many times sixteen have been written.
use Rattle.std.proofs.Common.{◌*◌}
use Rattle.std.specs.Io.KnownBytes.{Appends}
use Rattle.listing.specs.Printed.{spaces}
use Rattle.listing.proofs.print_spaces.Given as goal

abbrev pub invariant-loop : goal.invariant-loop
invariant-loop g l = Appends (g.W.Write.contents l.initial.out) (g.W.Write.contents l.out) (spaces (16 * l.counter))
