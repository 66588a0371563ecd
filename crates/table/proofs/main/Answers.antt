-- A table that was made lies in its buffer, by the laws of proofs/Judged.antt in `lines`.
use Rattle.std.proofs.Common.{arith, sym, length-take-le}
use Rattle.lines.proofs.Judged.{table_short}
use Rattle.table.proofs.main.Goals as goal

pub slice_bounds-table-end : goal.slice_bounds-table-end
slice_bounds-table-end c =
    let made = c.in-Ok-make.made in
    let short = table_short _ made.count made.length (sym c.in-Ok-make.ensures.made) in
    omega arith

pub slice_bounds-write_all-end : goal.slice_bounds-write_all-end
slice_bounds-write_all-end c =
    let made = c.in-Ok-make.made in
    let short = table_short _ made.count made.length (sym c.in-Ok-make.ensures.made) in
    sym (length-take-le _ _ (omega arith))
