-- The table is written where `judge` finds no fault, and nothing where it finds one.
use Rattle.std.proofs.Common.{sym, ap, ◌∙◌, rules}
use Rattle.layout.specs.Layout.{written}
use Rattle.layout.proofs.Written.{written-nil}
use Rattle.lines.proofs.Judged.{table_room, bytes_table, bytes_bad}
use Rattle.lines.proofs.make.Goals as goal

pub returns-in_err-made-clause-table : goal.returns-in_err-made-clause-table
returns-in_err-made-clause-table c =
    let fault = c.in_err-made.field-0.0 in
    let none = bytes_bad _ fault.kind fault.line (sym c.in_err-made.ensures) in
    sym (ap (written _ 0) none ∙ written-nil _ 0)

pub put_table-requires : goal.put_table-requires
put_table-requires c = table_room _ _ c.in_ok-made.made.length _ (search rules) (sym c.in_ok-made.ensures)

pub returns-clause-table : goal.returns-clause-table
returns-clause-table c =
    let made = c.in_ok-made.made in
    let all = bytes_table _ made.count made.length (sym c.in_ok-made.ensures) in
    c.put_table.ensures ∙ sym (ap (written _ 0) all)
