-- `is_utf8` keeps: the bytes are UTF-8 exactly where those from `at` on are. The measure is what is left of them.
use Rattle.std.proofs.Common.{◌-◌, ◌↔◌}
use Rattle.std.proofs.Math.Seq.{slice}
use Rattle.utf8.specs.Utf8.{Utf8}
use Rattle.utf8.proofs.is_utf8.Given as goal

abbrev pub invariant-loop-at : goal.invariant-loop-at
invariant-loop-at l = Utf8 (slice l.fn.from l.fn.to l.bytes) ↔ Utf8 (slice l.at l.end l.bytes)

abbrev pub decreases-loop-at : goal.decreases-loop-at
decreases-loop-at l = l.end - l.at
