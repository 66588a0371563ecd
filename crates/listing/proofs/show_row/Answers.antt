-- A line where one of the tables has the message, by what each call for its text answers.
use Rattle.std.proofs.Common.{ℕ, List, Bor, refl, ap, ◌∙◌}
use Rattle.std.proofs.KnownBytes.{Appends-nil}
use Rattle.listing.proofs.Told.{row_none, row_some, unwrapped, shown_texts}
use Rattle.listing.proofs.show_row.Goals as goal

pub returns-then-is_err : goal.returns-then-is_err
returns-then-is_err g c =
    let none = rw (c.is_err.ensures.value, c.is_err-2.ensures.value) at c.if-is_err.true in
    let row = row_none _ _ c.args.width _ c.text-left.result c.text-right.result c.text-left.ensures.refusal c.text-right.ensures.refusal none in
    record { bytes = rw row (Appends-nil _) }

pub returns : goal.returns
returns g c =
    let some = rw (c.is_err.ensures.value, c.is_err-2.ensures.value) at c.if-is_err.false in
    let line = row_some _ _ c.args.width _ c.text-left.result c.text-right.result c.text-left.ensures.refusal c.text-right.ensures.refusal some in
    let left = ap (λ (t : Bor (List ℕ)). t.now) c.unwrap_or.ensures ∙ unwrapped c.text-left.result _ refl ∙ c.text-left.ensures.bytes in
    let right = ap (λ (t : Bor (List ℕ)). t.now) c.unwrap_or-2.ensures ∙ unwrapped c.text-right.result _ refl ∙ c.text-right.ensures.bytes in
    let shown =
    shown_texts c.args.tables.first.now c.args.tables.second.now c.args.width c.args.number c.unwrap_or.result.now c.unwrap_or-2.result.now left right in
    record { bytes = rw (line, shown) c.print_row.ensures.bytes }
