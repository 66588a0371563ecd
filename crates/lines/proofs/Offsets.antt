-- The offsets and the bytes of the lines from a place on: the turn of the loop that writes the offsets, and where no line is left.
-- By the first line and those behind it.
use Prim.Native.Nat.{ℕ, ◌+◌, ◌*◌, ◌-◌, ◌≤◌, ◌<◌}
use native.Mathlib.Omega.{arith}
use mathlib.Core.Path.{◌≡◌, refl, ap, ap₂, ◌∙◌}
use mathlib.Core.List.{List, [], ◌∷◌, ◌++◌, flatten}
use lib.ListN.{length, drop, length-append}
use Rattle.layout.specs.Layout.{u16_bytes, written}
use Rattle.layout.proofs.Written.{written-append}
use Rattle.lines.specs.Lines.{lines, first_line}
use Rattle.texts.specs.Table.{header_width}
use Rattle.lines.specs.Table.{offsets, table_of, Room}
use Rattle.lines.specs.Making.{table_length}
use Rattle.lines.proofs.Split.{lines_at, lines_past}

module _ (text : List ℕ) (at end : ℕ) (some : at < length text) (ends : end ≡ at + length (first_line (drop at text))) where
  pub bytes_turn : length (flatten (lines (drop at text))) ≡ (end - at) + length (flatten (lines (drop (end + 1) text)))
  unfolding flatten
  bytes_turn = rw (lines_at text at some end ends, length-append) (omega arith)

  pub offsets_turn : (offset : ℕ) → offsets offset (lines (drop at text)) ≡ u16_bytes offset ++ offsets (offset + (end - at)) (lines (drop (end + 1) text))
  unfolding offsets
  offsets_turn offset = let n : length (first_line (drop at text)) ≡ end - at = omega arith in rw (lines_at text at some end ends, n)

pub offsets_past : (text : List ℕ) (at offset : ℕ) → length text ≤ at → offsets offset (lines (drop at text)) ≡ u16_bytes offset
unfolding offsets
offsets_past text at offset h = rw (lines_past text at h)

-- ---- the offsets of any messages, and the table that is written piece by piece
pub offsets_length : (messages : List (List ℕ)) (at : ℕ) → length (offsets at messages) ≡ 2 * (length messages + 1)
unfolding offsets
offsets_length [] at = refl
offsets_length (message ∷ messages) at = let rest = offsets_length messages (at + length message) in omega arith

pub table_length_lem : (messages : List (List ℕ)) → length (table_of messages) ≡ table_length messages
unfolding table_of
table_length_lem messages =
    let wide = offsets_length messages (header_width (length messages)) in
    let whole = length-append (offsets (header_width (length messages)) messages) (flatten messages) in
    omega arith

module _ (messages : List (List ℕ)) (count header : ℕ) (l l₁ l₂ l₃ : List ℕ) where
  pub table_written : Room messages count (length l) → header ≡ header_width count
      → l₁ ≡ written l 0 (u16_bytes count) → l₂ ≡ written l₁ 2 (offsets header messages) → l₃ ≡ written l₂ header (flatten messages)
      → l₃ ≡ written l 0 (table_of messages)
  unfolding table_of
  table_written room wide e₁ e₂ e₃ =
      let offs : List ℕ = offsets header messages in
      let long : length offs ≡ 2 * (length messages + 1) = offsets_length messages header in
      let head : List ℕ = u16_bytes count ++ offs in
      let ends : header ≡ 0 + length head = omega (arith, room.counts) in
      let fits = written-append l 0 (u16_bytes count) offs (omega (arith, room.counts, room.fits)) in
      let front : l₂ ≡ written l 0 head = e₂ ∙ ap (λ (x : List ℕ). written x 2 offs) e₁ ∙ fits in
      e₃
      ∙ ap₂ (λ (x : List ℕ) (k : ℕ). written x k (flatten messages)) front ends
      ∙ written-append l 0 head (flatten messages) (omega (arith, room.counts, room.fits))
      ∙ ap₂ (λ (n k : ℕ). written l 0 (u16_bytes n ++ (offsets k messages ++ flatten messages))) room.counts (wide ∙ ap header_width room.counts)

pub offsets_some : (messages : List (List ℕ)) (at : ℕ) → 2 ≤ length (offsets at messages)
unfolding offsets
offsets_some [] at = omega arith
offsets_some (message ∷ messages) at = omega arith
