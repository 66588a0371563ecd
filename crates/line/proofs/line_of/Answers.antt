-- The first number, the others and the line end put one behind the other are put as one (`put_line`).
use native.Mathlib.Nat.{zero-add}
use Rattle.std.proofs.Common.{length-set, rules}
use Rattle.line.specs.Line.{line, line_of}
use Rattle.line.proofs.Put.{put, put_line}
use Rattle.line.proofs.line_of.Goals as goal

pub returns : goal.returns
unfolding line_of line
returns c =
    let p = put_line (search rules) (search rules) (put c.put_decimal-first.ensures) (put c.put_spaced-end.ensures) in
    record { length = (rw zero-add at p.place, simp length-set (search rules)); text = p.list }
