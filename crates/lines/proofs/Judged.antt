-- What is made of a text, line by line: the turn of the loop that judges it, and what a table that comes of it has.
-- By the three tests of a line, then by induction on the lines.
use Prim.Native.Nat.{ℕ, zero, suc, ◌+◌, ◌-◌, ◌≤◌, ◌<◌}
use native.Mathlib.Omega.{arith}
use mathlib.Core.Path.{◌≡◌, refl, ap, ◌∙◌}
use mathlib.Core.Bool.{Bool, true, false, not, cond, decide, decide_iff}
use mathlib.Core.List.{List, [], ◌∷◌, flatten}
use lib.Dec.{ltb}
use lib.ListN.{length, get_or, drop, length-append}
use lib.Seq.{slice}
use borrow.Author.Tests.{lt-ltb, le-ltb, ltb-false, not-false}
use Rattle.utf8.specs.Utf8.{Utf8}
use Rattle.utf8.proofs.Utf8.{utf8?}
use Rattle.texts.specs.Table.{most_messages, most_bytes, header_width}
use Rattle.lines.specs.Lines.{lines, first_line}
use Rattle.lines.specs.Table.{table_of, Room}
use Rattle.lines.specs.Made.{good, bad, made_after, made_of, made, bytes_of}
use Rattle.std.specs.Prelude.{Result, Ok, Err}
use Rattle.lines.specs.declared.FaultKind.{FaultKind}
use Rattle.lines.specs.declared.Fault.{Fault}
use Rattle.lines.specs.declared.Table.{Table}
use Rattle.lines.specs.declared.FaultKind.TheVariants.{NoLine, TooMany, TooLong, NotUtf8}
use Rattle.layout.specs.Layout.{written}
use Rattle.layout.proofs.Written.{written-nil, length-written}
use Rattle.lines.proofs.Offsets.{table_length_lem}
use Rattle.lines.proofs.Split.{lines_none, lines_some, lines_at, lines_past, line_slice}

-- ---- tables that are one have one count and one length, and faults that are one have one kind and one line
pub good_is : (n m n' m' : ℕ) → good n m ≡ good n' m' → (n ≡ n') × (m ≡ m')
good_is n m n' m' e =
    let same : ◌≡◌ {A = Table} (record { count = n; length = m }) (record { count = n'; length = m' }) = cc in
    (ap (λ (t : Table). t.count) same, ap (λ (t : Table). t.length) same)

pub bad_is : (kind kind' : FaultKind) (line line' : ℕ) → bad kind line ≡ bad kind' line' → (kind' ≡ kind) × (line' ≡ line)
bad_is kind kind' line line' e =
    let same : ◌≡◌ {A = Fault} (record { kind = kind'; line = line' }) (record { kind = kind; line = line }) = cc in
    (ap (λ (f : Fault). f.kind) same, ap (λ (f : Fault). f.line) same)

-- ---- no line, and some
pub made_none : (text : List ℕ) → length text ≡ 0 → made text ≡ bad NoLine 1
unfolding made_of
made_none [] h = rw lines_none
made_none (byte ∷ text) h = absurd (omega arith)

pub made_some : (text : List ℕ) → (length text ≡ 0 → ⊥) → made text ≡ made_after 0 0 (lines text)
unfolding made_of
made_some text h = rw (lines_some text (omega arith))

-- ---- a turn: the line from `at` to `end` and those behind it
module _ (text : List ℕ) (at end count bytes : ℕ) (some : at < length text) (ends : end ≡ at + length (first_line (drop at text))) where
  pub turn : made_after count bytes (lines (drop at text))
      ≡ cond (ltb most_messages (count + 1)) (bad TooMany (count + 1))
      (cond (ltb most_bytes (header_width (count + 1) + bytes + (end - at))) (bad TooLong (count + 1))
      (cond (not (decide (utf8? (slice at end text)))) (bad NotUtf8 (count + 1))
      (made_after (count + 1) (bytes + (end - at)) (lines (drop (end + 1) text)))))
  unfolding made_after
  turn =
      let n : length (first_line (drop at text)) ≡ end - at = omega arith in
      rw (lines_at text at some end ends, n, line_slice text at end ends)

module _ (text : List ℕ) (at count bytes : ℕ) (some : at < length text) where
  -- one line too many
  pub turn_many : most_messages < count + 1 → made_after count bytes (lines (drop at text)) ≡ bad TooMany (count + 1)
  turn_many over = turn text at _ count bytes some refl ∙ rw (lt-ltb _ _ over)

  -- a table too long
  pub turn_long : count + 1 ≤ most_messages → most_bytes < header_width (count + 1) + bytes + length (first_line (drop at text))
      → made_after count bytes (lines (drop at text)) ≡ bad TooLong (count + 1)
  turn_long few over =
      let n : at + length (first_line (drop at text)) - at ≡ length (first_line (drop at text)) = omega arith in
      turn text at _ count bytes some refl ∙ rw (le-ltb _ _ few, n, lt-ltb _ _ over)

pub ended : (text : List ℕ) (at count bytes : ℕ) → length text ≤ at
    → made_after count bytes (lines (drop at text)) ≡ good count (header_width count + bytes)
unfolding made_after
ended text at count bytes h = rw (lines_past text at h)

-- ---- a table that comes of lines, after so many with so many bytes
pub record Whole (count bytes : ℕ) (messages : List (List ℕ)) (n m : ℕ) : Type 0 where
  pub counts : n ≡ count + length messages
  pub long : m ≡ header_width n + bytes + length (flatten messages)
  pub most : n ≤ most_messages
  pub short : m ≤ most_bytes
  pub each : (i : ℕ) → i < length messages → Utf8 (get_or messages i [])

-- the first of three tests that says yes is the fault
three_no : (a b c : Bool) (x y z : FaultKind) (line : ℕ) (r : Result Table Fault) (n m : ℕ)
    → cond a (bad x line) (cond b (bad y line) (cond c (bad z line) r)) ≡ good n m → (a ≡ false) × (b ≡ false) × (c ≡ false) × (r ≡ good n m)
three_no true b c x y z line r n m e = absurd (let k : ◌≡◌ {A = ℕ} 0 1 = cc in omega arith)
three_no false true c x y z line r n m e = absurd (let k : ◌≡◌ {A = ℕ} 0 1 = cc in omega arith)
three_no false false true x y z line r n m e = absurd (let k : ◌≡◌ {A = ℕ} 0 1 = cc in omega arith)
three_no false false false x y z line r n m e = (refl, refl, refl, e)

-- the first lines, with one more in front
pub each_on : (line : List ℕ) (rest : List (List ℕ)) (k : ℕ) → Utf8 line → ((i : ℕ) → i < k → Utf8 (get_or rest i []))
    → (i : ℕ) → i < suc k → Utf8 (get_or (line ∷ rest) i [])
each_on line rest k u h zero l = u
each_on line rest k u h (suc i) l = h i (omega arith)

pub whole : (messages : List (List ℕ)) (count bytes n m : ℕ) → count ≤ most_messages → header_width count + bytes ≤ most_bytes
    → made_after count bytes messages ≡ good n m → Whole count bytes messages n m
unfolding made_after flatten
whole [] count bytes n m l h e =
    let same = good_is count (header_width count + bytes) n m e in
    let p : count ≡ n = same.0 in
    let q : header_width count + bytes ≡ m = same.1 in
    record { counts = omega arith; long = omega arith; most = omega arith; short = omega arith; each = λ i k. absurd (omega arith) }
whole (line ∷ rest) count bytes n m l h e =
    let t =
    three_no (ltb most_messages (count + 1)) (ltb most_bytes (header_width (count + 1) + bytes + length line)) (not (decide (utf8? line)))
    TooMany TooLong NotUtf8 (count + 1) (made_after (count + 1) (bytes + length line) rest) n m e in
    let room = ltb-false most_messages (count + 1) t.0 in
    let fits = ltb-false most_bytes (header_width (count + 1) + bytes + length line) t.1 in
    let w = whole rest (count + 1) (bytes + length line) n m (omega arith) (omega arith) t.3 in
    let bytes_too = length-append line (flatten rest) in
    record {
      counts = omega (arith, w.counts);
      long = omega (arith, w.long);
      most = w.most;
      short = w.short;
      each = each_on line rest (length rest) ((decide_iff (utf8? line)).0 (not-false _ t.2)) w.each;
    }

pub table_whole : (messages : List (List ℕ)) (n m : ℕ) → made_of messages ≡ good n m → Whole 0 0 messages n m
unfolding made_of
table_whole [] n m e = absurd (let k : ◌≡◌ {A = ℕ} 0 1 = cc in omega arith)
table_whole (line ∷ rest) n m e = whole (line ∷ rest) 0 0 n m (omega arith) (omega arith) e

pub table_some : (messages : List (List ℕ)) (n m : ℕ) → made_of messages ≡ good n m → 1 ≤ length messages
unfolding made_of
table_some [] n m e = absurd (let k : ◌≡◌ {A = ℕ} 0 1 = cc in omega arith)
table_some (line ∷ rest) n m e = omega arith

pub table_short : (messages : List (List ℕ)) (n m : ℕ) → made_of messages ≡ good n m → m ≤ most_bytes
table_short messages n m e = (table_whole messages n m e).short

pub table_room : (messages : List (List ℕ)) (n m room : ℕ) → most_bytes ≤ room → made_of messages ≡ good n m → Room messages n room
table_room messages n m room h e =
    let w = table_whole messages n m e in
    record { counts = omega (arith, w.counts); short = omega (arith, w.long, w.short); fits = omega (arith, w.long, w.short) }

table_fits : (messages : List (List ℕ)) (n m : ℕ) → made_of messages ≡ good n m → length (table_of messages) ≤ most_bytes
table_fits messages n m e =
    let long = table_length_lem messages in
    let w = table_whole messages n m e in
    omega (arith, w.counts, w.long, w.short)

-- ---- the bytes that are written
pub bytes_table : (messages : List (List ℕ)) (n m : ℕ) → made_of messages ≡ good n m → bytes_of (made_of messages) messages ≡ table_of messages
unfolding bytes_of
bytes_table messages n m e = rw e

pub bytes_bad : (messages : List (List ℕ)) (fault : FaultKind) (line : ℕ) → made_of messages ≡ bad fault line → bytes_of (made_of messages) messages ≡ []
unfolding bytes_of
bytes_bad messages fault line e = rw e

-- what is written fits, so that the buffer keeps its length
pub buffer_kept : (messages : List (List ℕ)) (l : List ℕ) → length l ≡ most_bytes
    → length (written l 0 (bytes_of (made_of messages) messages)) ≡ most_bytes
unfolding bytes_of
buffer_kept messages l h = go (made_of messages) refl
  where
    go : (m : Result Table Fault) → made_of messages ≡ m → length (written l 0 (bytes_of (made_of messages) messages)) ≡ most_bytes
    go (Ok t) e = let fits = table_fits messages t.count t.length e in rw e (length-written l 0 (table_of messages) (omega arith) ∙ h)
    go (Err fault) e = rw e (ap length (written-nil l 0) ∙ h)
