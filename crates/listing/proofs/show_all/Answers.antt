-- A refusal is told; else one more row is written behind those before, until all are.
use Rattle.std.proofs.Common.{◌≡◌, ℕ, ◌+◌, ◌++◌, List, sym, subst, arith, add-one}
use Rattle.std.proofs.KnownBytes.{Appends-trans}
use Rattle.std.specs.Io.KnownBytes.{Appends}
use Rattle.listing.specs.Printed.{row, rows}
use Rattle.listing.proofs.Told.{all_refused, all_rows}
use Rattle.listing.proofs.show_all.Goals as goal

one_more : (first second : List ℕ) (width number : ℕ)
    → rows first second width (number + 1) ≡ rows first second width number ++ row first second width number
unfolding rows
one_more first second width number = rw add-one

pub loop-number-preserved : goal.loop-number-preserved
loop-number-preserved g c =
    subst (Appends _ _) (sym (one_more _ _ _ _)) (Appends-trans _ _ _ _ _ c.loop-number.invariant c.in_ok-show_row.ensures.bytes)

pub returns-in-Err : goal.returns-in-Err
returns-in-Err g c = record { bytes = rw (all_refused _ _ c.in-Err.refusal c.in-Err.ensures) c.print_refused.ensures.bytes }

pub returns : goal.returns
returns g c =
    let done : c.loop-number.number ≡ 64 = omega arith in
    let all = all_rows c.args.tables.first.now c.args.tables.second.now c.widest-width.result c.in_default.ensures c.widest-width.ensures in
    record { bytes = rw all (rw done at c.loop-number.invariant) }
