-- The numbers passed are put, in at most six bytes each.
use Rattle.std.proofs.Common.{◌≡◌, ◌+◌, ◌*◌, ◌≤◌, length, take}
use Rattle.line.specs.Line.{number_most, spaced}
use Rattle.line.proofs.Put.{Put}
use Rattle.line.proofs.put_spaced.Given as goal

abbrev pub invariant-loop-x : goal.invariant-loop-x
invariant-loop-x l =
    (l.at ≤ l.from + number_most * l.x-index) × (length l.out ≡ length l.initial.out)
    × Put l.initial.out l.from (spaced (take l.x-index l.numbers)) l.out l.at
