-- A text by its lines: the first line and those behind its end are all; and byte by byte, for the loops that go over it.
-- By induction on the text, and by the byte that stands at a place.
use Prim.Native.Nat.{ℕ, suc, ◌+◌, ◌-◌, ◌≤◌, ◌<◌}
use native.Mathlib.Numerals.{add-one}
use native.Mathlib.Omega.{arith}
use mathlib.Core.Path.{◌≡◌, refl, sym, ap, ◌∙◌}
use mathlib.Core.Bool.{Bool, true, false, cond}
use mathlib.Core.List.{List, [], ◌∷◌, flatten}
use lib.Dec.{eqb, ltb}
use lib.ListN.{length, get_or, take, drop, set, length-drop, drop_of_length-le}
use lib.Seq.{slice, drop-cons, drop-drop}
use borrow.Author.Tests.{eq-eqb, ne_eqb, ltb-true, ltb-false}
use Rattle.std.specs.Prelude.{Some, None}
use Rattle.std.specs.List.{position, position_or_len}
use Rattle.std.proofs.lemmas.List.Recursion.{is_position_or_len}
use Rattle.layout.specs.Layout.{written}
use Rattle.layout.proofs.Slices.{cut_slice}
use Rattle.layout.proofs.Written.{store_then}
use Rattle.lines.specs.Lines.{line_end, onto, lines, first_line}

-- ---- the bytes of the lines: all but the line ends
bytes_on : (byte : ℕ) (text : List ℕ) → flatten (lines (byte ∷ text)) ≡ cond (eqb byte line_end) (flatten (lines text)) (byte ∷ flatten (lines text))
unfolding lines onto flatten
bytes_on byte text = go (eqb byte line_end) (lines text)
  where
    go : (b : Bool) (rest : List (List ℕ)) → flatten (cond b ([] ∷ rest) (onto byte rest)) ≡ cond b (flatten rest) (byte ∷ flatten rest)
    go true rest = refl
    go false [] = refl
    go false (line ∷ rest) = refl

-- ---- the first line and the others
pub lines_none : lines [] ≡ []
unfolding lines
lines_none = refl

lines_first : (byte : ℕ) (text : List ℕ)
    → lines (byte ∷ text) ≡ first_line (byte ∷ text) ∷ lines (drop (suc (length (first_line (byte ∷ text)))) (byte ∷ text))
unfolding lines first_line onto
lines_first byte [] = go (eqb byte line_end)
  where
    go : (b : Bool) → cond b ([] ∷ []) ((byte ∷ []) ∷ []) ≡ cond b [] (byte ∷ []) ∷ lines (drop (length (cond b [] (byte ∷ []))) [])
    go true = refl
    go false = refl
lines_first byte (next ∷ text) = go (eqb byte line_end) (lines (next ∷ text)) refl (lines_first next text)
  where
    go : (b : Bool) (rest : List (List ℕ)) → lines (next ∷ text) ≡ rest
        → rest ≡ first_line (next ∷ text) ∷ lines (drop (suc (length (first_line (next ∷ text)))) (next ∷ text))
        → cond b ([] ∷ rest) (onto byte rest)
        ≡ cond b [] (byte ∷ first_line (next ∷ text)) ∷ lines (drop (length (cond b [] (byte ∷ first_line (next ∷ text)))) (next ∷ text))
    go true rest e h = ap (λ (x : List (List ℕ)). [] ∷ x) (sym e)
    go false rest e h = ap (onto byte) h

pub lines_some : (text : List ℕ) → 0 < length text → lines text ≡ first_line text ∷ lines (drop (suc (length (first_line text))) text)
lines_some [] h = absurd (omega arith)
lines_some (byte ∷ text) h = lines_first byte text

-- the first line is the front of the text
line_front : (text : List ℕ) → first_line text ≡ take (length (first_line text)) text
unfolding first_line
line_front [] = refl
line_front (byte ∷ text) = go (eqb byte line_end) (line_front text)
  where
    go : (b : Bool) → first_line text ≡ take (length (first_line text)) text
        → cond b [] (byte ∷ first_line text) ≡ take (length (cond b [] (byte ∷ first_line text))) (byte ∷ text)
    go true e = refl
    go false e = ap (λ (x : List ℕ). byte ∷ x) e

module _ (text : List ℕ) (at : ℕ) where
  abbrev line : List ℕ
  line = first_line (drop at text)

  pub line_slice : (end : ℕ) → end ≡ at + length line → line ≡ slice at end text
  line_slice end e =
      let n : end - at ≡ length line = omega arith in
      line_front (drop at text) ∙ ap (λ (k : ℕ). take k (drop at text)) (sym n) ∙ cut_slice text at end

  -- nothing is left
  pub lines_past : length text ≤ at → lines (drop at text) ≡ []
  lines_past h = ap lines (drop_of_length-le text h) ∙ lines_none

  pub line_past : length text ≤ at → length line ≡ 0
  unfolding first_line
  line_past h = rw (drop_of_length-le text h)

  -- ---- at a place
  module _ (some : at < length text) where
    pub lines_at : (end : ℕ) → end ≡ at + length line → lines (drop at text) ≡ line ∷ lines (drop (end + 1) text)
    lines_at end e =
        let long : 0 < length (drop at text) = rw length-drop (omega arith) in
        let n : end + 1 ≡ at + suc (length line) = omega arith in
        lines_some (drop at text) long
        ∙ ap (λ (x : List ℕ). line ∷ lines x) (drop-drop (suc (length line)) at text ∙ ap (λ (k : ℕ). drop k text) (sym n))

    abbrev byte : ℕ
    byte = get_or text at 0

    here : drop at text ≡ byte ∷ drop (at + 1) text
    here = rw (add-one, drop-cons text at 0 some)

    pub line_ends : byte ≡ line_end → length line ≡ 0
    unfolding first_line
    line_ends e = rw (here, eq-eqb byte line_end e)

    pub line_goes_on : (byte ≡ line_end → ⊥) → length line ≡ suc (length (first_line (drop (at + 1) text)))
    unfolding first_line
    line_goes_on n = rw (here, ne_eqb byte line_end n)

    abbrev bytes : ℕ → List ℕ
    bytes k = flatten (lines (drop k text))

    bytes_here : bytes at ≡ cond (eqb byte line_end) (bytes (at + 1)) (byte ∷ bytes (at + 1))
    bytes_here = ap (λ (x : List ℕ). flatten (lines x)) here ∙ bytes_on byte (drop (at + 1) text)

    pub bytes_end : byte ≡ line_end → bytes at ≡ bytes (at + 1)
    bytes_end e = bytes_here ∙ rw (eq-eqb byte line_end e)

    pub bytes_more : (byte ≡ line_end → ⊥) → bytes at ≡ byte ∷ bytes (at + 1)
    bytes_more n = bytes_here ∙ rw (ne_eqb byte line_end n)

    -- as long
    pub length_end : byte ≡ line_end → length (bytes at) ≡ length (bytes (at + 1))
    length_end e = ap length (bytes_end e)

    pub length_more : (byte ≡ line_end → ⊥) → length (bytes at) ≡ suc (length (bytes (at + 1)))
    length_more n = ap length (bytes_more n)

    -- written from a place on
    pub put_end : (table : List ℕ) (to : ℕ) → byte ≡ line_end → written table to (bytes (at + 1)) ≡ written table to (bytes at)
    put_end table to e = ap (written table to) (sym (bytes_end e))

    pub put_more : (table : List ℕ) (to : ℕ) → (byte ≡ line_end → ⊥) → to + length (bytes at) ≤ length table
        → written (set table to byte) (to + 1) (bytes (at + 1)) ≡ written table to (bytes at)
    put_more table to n fits =
        let more = length_more n in
        store_then table to _ _ (omega arith) ∙ sym (ap (written table to) (bytes_more n))

first_most : (text : List ℕ) → length (first_line text) ≤ length text
unfolding first_line
first_most [] = omega arith
first_most (byte ∷ text) = go (eqb byte line_end) (first_most text)
  where
    go : (b : Bool) → length (first_line text) ≤ length text → length (cond b [] (byte ∷ first_line text)) ≤ suc (length text)
    go true h = omega arith
    go false h = omega arith

-- ---- the first line ends where the first line end stands, else with the text
pub line_position : (text : List ℕ) → length (first_line text) ≡ position_or_len (λ byte. eqb byte line_end) text
unfolding first_line
line_position text =
    is_position_or_len (λ rest. length (first_line rest)) (λ byte. eqb byte line_end) refl
    (λ byte rest. next (eqb byte line_end) byte (first_line rest)) text
  where
    next : (ends : Bool) (byte : ℕ) (line : List ℕ) → length (cond ends [] (byte ∷ line)) ≡ cond ends 0 (1 + length line)
    next true byte line = refl
    next false byte line = omega arith

pub line_found : (text : List ℕ) (n : ℕ) → position (λ byte. eqb byte line_end) text ≡ Some n → (n ≡ length (first_line text)) × (n < length text)
line_found text n e = go (ltb (position_or_len (λ byte. eqb byte line_end) text) (length text)) refl e
  where
    go : (b : Bool) → ltb (position_or_len (λ byte. eqb byte line_end) text) (length text) ≡ b
        → cond b (Some (position_or_len (λ byte. eqb byte line_end) text)) None ≡ Some n → (n ≡ length (first_line text)) × (n < length text)
    go true l is =
        let same : position_or_len (λ byte. eqb byte line_end) text ≡ n = cc in
        let within = ltb-true _ _ l in
        (sym same ∙ sym (line_position text), rw same at within)
    go false l is = absurd (let k : ◌≡◌ {A = ℕ} 0 1 = cc in omega arith)

pub line_whole : (text : List ℕ) → position (λ byte. eqb byte line_end) text ≡ None → length text ≡ length (first_line text)
line_whole text e = go (ltb (position_or_len (λ byte. eqb byte line_end) text) (length text)) refl e
  where
    go : (b : Bool) → ltb (position_or_len (λ byte. eqb byte line_end) text) (length text) ≡ b
        → cond b (Some (position_or_len (λ byte. eqb byte line_end) text)) None ≡ None → length text ≡ length (first_line text)
    go true l is = absurd (let k : ◌≡◌ {A = ℕ} 0 1 = cc in omega arith)
    go false l is =
        let past = ltb-false _ _ l in
        let most = first_most text in
        let same = line_position text in
        omega arith
