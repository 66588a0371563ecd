-- Five reasons put one behind the other are put as one (`put_four`, `put_then`), and so is the line (`put_line`).
use native.Mathlib.Nat.{zero-add}
use Rattle.std.proofs.Common.{length-set, rules}
use Rattle.line.specs.Line.{line, line_of_reasons}
use Rattle.line.proofs.Put.{put, put_then, put_four, put_line, spaced-append}
use Rattle.line.proofs.line_of_reasons.Goals as goal

pub returns : goal.returns
unfolding line_of_reasons line
returns c =
    let p4 =
    put_four (search rules) (put c.put_reason-second.ensures) (put c.put_reason-third.ensures)
    (put c.put_reason-fourth.ensures) (put c.put_reason-fifth.ensures) in
    let p5 = put_then (search rules) p4 (put c.put_reason-end.ensures) in
    let p = put_line (search rules) (search rules) (put c.put_decimal-first.ensures) p5 in
    simp spaced-append (record { length = (rw zero-add at p.place, simp length-set (search rules)); text = p.list })
