-- Of a text with a line for each message of a list that fits, `make` returns and writes a table that holds them; where it makes a table, the lines fit;
-- where it makes none, it tells the first line at fault.
-- `Post` is the contract as the check reads it off the source; `s.1.0` is the buffer, the second parameter, at exit.
use Prim.Native.Nat.{ℕ, suc, ◌+◌, ◌≤◌, ◌<◌}
use native.Mathlib.Omega.{arith}
use mathlib.Core.Path.{◌≡◌, refl, sym, ap, ap₂, ◌∙◌}
use mathlib.Core.Bool.{decide_iff}
use mathlib.Core.List.{List, [], ◌∷◌, flatten}
use lib.ListN.{length, get_or, take, length-append}
use lib.Seq.{take_at}
use borrow.Author.Tests.{le-ltb}
use contract.Lifetimes.{Lfts}
use Rattle.std.specs.Prelude.{Ok, Err}
use Rattle.utf8.specs.Utf8.{Utf8}
use Rattle.utf8.proofs.Utf8.{utf8?}
use Rattle.layout.specs.Layout.{written}
use Rattle.texts.specs.Table.{most_messages, most_bytes, header_width}
use Rattle.lines.specs.Lines.{lines, text_of}
use Rattle.lines.specs.Table.{table_of}
use Rattle.lines.specs.Made.{good, made_after, made_of}
use Rattle.lines.specs.Making.{table_length, Fitting, Unbroken, Makes, FirstFault}
use Rattle.lines.proofs.Judged.{bytes_table, table_some, table_whole}
use Rattle.lines.proofs.Faults.{fault_first}
use Rattle.lines.proofs.Lines.{lines_unbroken, lines_text}
use Rattle.lines.proofs.Offsets.{table_length_lem}
use Rattle.lines.proofs.Reading.{holds}
use Rattle.lines.proofs.make.Reads as making

-- ---- no fault is found
no_fault : (messages : List (List ℕ)) (count bytes : ℕ) → count + length messages ≤ most_messages
    → header_width (count + length messages) + bytes + length (flatten messages) ≤ most_bytes
    → ((i : ℕ) → i < length messages → Utf8 (get_or messages i []))
    → made_after count bytes messages ≡ good (count + length messages) (header_width (count + length messages) + bytes + length (flatten messages))
unfolding made_after flatten
no_fault [] count bytes l h u = ap₂ good (omega arith) (omega arith)
no_fault (message ∷ messages) count bytes l h u =
    let n = length-append message (flatten messages) in
    let well = (decide_iff (utf8? message)).1 (u 0 (omega arith)) in
    rw (le-ltb most_messages (count + 1) (omega arith), le-ltb most_bytes (header_width (count + 1) + bytes + length message) (omega arith), well)
    (no_fault messages (count + 1) (bytes + length message) (omega arith) (omega arith) (λ i k. u (suc i) (omega arith))
    ∙ ap₂ good (omega arith) (omega arith))

-- the start of what is written from 0 on
front : (l new : List ℕ) → take (length new) (written l 0 new) ≡ new
unfolding written
front l new = take_at new _ (length new) refl

-- ---- what is made of messages that fit
made_fitting : (messages : List (List ℕ)) → Fitting messages → made_of messages ≡ good (length messages) (table_length messages)
unfolding made_of
made_fitting [] fit = absurd (omega (arith, fit.some))
made_fitting (m ∷ messages) fit =
    no_fault (m ∷ messages) 0 0 (omega (arith, fit.most)) (omega (arith, fit.short)) fit.utf8 ∙ ap₂ good (omega arith) (omega arith)

-- ---- where a table is made, they fit
fitting_made : (messages : List (List ℕ)) (n m : ℕ) → made_of messages ≡ good n m → Fitting messages
fitting_made messages n m e =
    let w = table_whole messages n m e in
    record {
      some = table_some messages n m e;
      most = omega (arith, w.counts, w.most);
      short = omega (arith, w.counts, w.long, w.short);
      utf8 = w.each;
    }

module _ (κs : Lfts 2) (text buffer : _) (r : _) (s : _) (post : making.Post κs (text, (buffer, tt)) r s) where
  -- whatever the text is whose lines they are
  pub lines_make : (messages : List (List ℕ)) → Fitting messages → lines text.now ≡ messages → Makes messages r s.1.0.now
  lines_make messages fit same =
      let e = ap made_of same ∙ made_fitting messages fit in
      let bytes = post.1 ∙ ap (written buffer.now 0) (bytes_table (lines text.now) _ _ e ∙ ap table_of same) in
      let start : take (table_length messages) s.1.0.now ≡ table_of messages =
      ap₂ take (sym (table_length_lem messages)) bytes ∙ front buffer.now (table_of messages) in
      record { returned = post.0 ∙ e; holds = rw start (holds messages fit) }

  pub list_makes : (messages : List (List ℕ)) → Fitting messages → Unbroken messages → text.now ≡ text_of messages → Makes messages r s.1.0.now
  list_makes messages fit unbroken is = lines_make messages fit (ap lines is ∙ lines_text messages unbroken)

  pub made_fits : (table : _) → r ≡ Ok table → Fitting (lines text.now) × Unbroken (lines text.now)
  made_fits table e = (fitting_made (lines text.now) table.count table.length (sym post.0 ∙ e), lines_unbroken text.now)

  pub told_first : (fault : _) → r ≡ Err fault → FirstFault (lines text.now) fault.kind fault.line
  told_first fault e = fault_first (lines text.now) fault.kind fault.line (sym post.0 ∙ e)
