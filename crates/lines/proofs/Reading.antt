-- The table of a list of messages, read as a table of texts: its count, its offsets, each message to the byte. So it is good.
-- By the bytes before each message, by induction on the messages.
use Prim.Native.Nat.{ℕ, zero, suc, ◌+◌, ◌*◌, ◌≤◌, ◌<◌}
use native.Mathlib.Nat.{add-zero}
use native.Mathlib.Numerals.{add-one}
use native.Mathlib.Omega.{arith}
use mathlib.Core.Path.{◌≡◌, refl, sym, ap, ap₂, ◌∙◌}
use mathlib.Core.List.{List, [], ◌∷◌, ◌++◌, flatten}
use lib.ListN.{length, get_or, take, drop, length-append}
use lib.Seq.{slice, take-append-add, drop-append-add, take-append_seam}
use Rattle.layout.specs.Layout.{u16_at, u16_bytes}
use Rattle.layout.proofs.U16.{u16_at_bytes}
use Rattle.texts.specs.Table.{header_width, count, offset, message}
use Rattle.texts.proofs.Good.{Good, good_table}
use Rattle.lines.specs.Table.{offsets, table_of}
use Rattle.lines.specs.Making.{Fitting, Holds}
use Rattle.lines.proofs.Offsets.{offsets_length, table_length_lem}

-- the bytes of the first i messages
before : ℕ → List (List ℕ) → ℕ
before zero messages = 0
before (suc i) [] = 0
before (suc i) (message ∷ messages) = length message + before i messages

before_all : (messages : List (List ℕ)) → before (length messages) messages ≡ length (flatten messages)
unfolding before flatten
before_all [] = refl
before_all (message ∷ messages) = let rest = before_all messages in let e = length-append message (flatten messages) in omega arith

before_rises : (i : ℕ) (messages : List (List ℕ)) → before i messages ≤ before (suc i) messages
unfolding before
before_rises zero messages = omega arith
before_rises (suc i) [] = omega arith
before_rises (suc i) (message ∷ messages) = let rest = before_rises i messages in omega arith

before_most : (i : ℕ) (messages : List (List ℕ)) → before i messages ≤ length (flatten messages)
unfolding before flatten
before_most zero messages = omega arith
before_most (suc i) [] = omega arith
before_most (suc i) (message ∷ messages) = let rest = before_most i messages in let e = length-append message (flatten messages) in omega arith

-- two bytes further on
u16_at_on : (x y : ℕ) (l : List ℕ) (k : ℕ) → u16_at (x ∷ y ∷ l) (2 + k) ≡ u16_at l k
unfolding u16_at
u16_at_on x y l k =
    let e : 2 + k ≡ suc (suc k) = omega arith in
    let f : 2 + k + 1 ≡ suc (suc (k + 1)) = omega arith in
    rw (f, e)

-- ---- the offsets
offsets_at : (messages : List (List ℕ)) (at : ℕ) (rest : List ℕ) (i : ℕ) → i ≤ length messages → at + length (flatten messages) < 65536
    → u16_at (offsets at messages ++ rest) (2 * i) ≡ at + before i messages
unfolding offsets before flatten
offsets_at [] at rest zero l h = u16_at_bytes _ 0 at (omega arith) refl refl ∙ sym (add-zero at)
offsets_at [] at rest (suc i) l h = absurd (omega arith)
offsets_at (m ∷ messages) at rest zero l h = u16_at_bytes _ 0 at (omega arith) refl refl ∙ sym (add-zero at)
offsets_at (m ∷ messages) at rest (suc i) l h =
    let e : 2 * suc i ≡ 2 + 2 * i = omega arith in
    let n = length-append m (flatten messages) in
    let rec = offsets_at messages (at + length m) rest i (omega arith) (omega arith) in
    ap (u16_at (offsets at (m ∷ messages) ++ rest)) e ∙ u16_at_on _ _ (offsets (at + length m) messages ++ rest) (2 * i) ∙ rec ∙ omega arith

-- ---- the messages
part_at : (messages : List (List ℕ)) (i : ℕ) → i < length messages
    → slice (before i messages) (before (suc i) messages) (flatten messages) ≡ get_or messages i []
unfolding before flatten
part_at [] i l = absurd (omega arith)
part_at (m ∷ messages) zero l = ap (λ (k : ℕ). take k (m ++ flatten messages)) (add-zero (length m)) ∙ take-append_seam m (flatten messages)
part_at (m ∷ messages) (suc i) l =
    ap (drop (length m + before i messages)) (take-append-add m (flatten messages) (before (suc i) messages))
    ∙ drop-append-add m (take (before (suc i) messages) (flatten messages)) (before i messages)
    ∙ part_at messages i (omega arith)

-- a part behind a front
behind : (front body : List ℕ) (p q : ℕ) → slice (length front + p) (length front + q) (front ++ body) ≡ slice p q body
behind front body p q = ap (drop (length front + p)) (take-append-add front body q) ∙ drop-append-add front (take q body) p

module _ (messages : List (List ℕ)) (fit : Fitting messages) where
  abbrev n : ℕ
  n = length messages

  abbrev table : List ℕ
  table = table_of messages

  abbrev header : List ℕ
  header = u16_bytes n ++ offsets (header_width n) messages

  wide : length header ≡ header_width n
  wide = let h = offsets_length messages (header_width n) in omega arith

  table_is : table ≡ header ++ flatten messages
  unfolding table_of
  table_is = refl

  counts : count table ≡ n
  unfolding table_of
  counts = u16_at_bytes _ 0 n (omega (arith, fit.most)) refl refl

  offset_is : (i : ℕ) → i ≤ n → offset table i ≡ header_width n + before i messages
  unfolding table_of
  offset_is i l =
      u16_at_on _ _ (offsets (header_width n) messages ++ flatten messages) (2 * i)
      ∙ offsets_at messages (header_width n) (flatten messages) i l (omega (arith, fit.short))

  message_is : (i : ℕ) → i < n → message table i ≡ get_or messages i []
  message_is i l =
      let start : offset table i ≡ length header + before i messages = offset_is i (omega arith) ∙ ap (λ (k : ℕ). k + before i messages) (sym wide) in
      let end : offset table (i + 1) ≡ length header + before (suc i) messages =
      offset_is (i + 1) (omega arith) ∙ ap₂ (λ (k j : ℕ). k + before j messages) (sym wide) (add-one i) in
      rw (start, end, table_is) (behind header (flatten messages) (before i messages) (before (suc i) messages) ∙ part_at messages i l)

  rising : (i : ℕ) → i < n → offset table i ≤ offset table (i + 1)
  rising i l =
      let next = ap (λ (k : ℕ). before k messages) (add-one i) in
      omega (arith, offset_is i (omega arith), offset_is (i + 1) (omega arith), before_rises i messages)

  good : Good table
  unfolding before
  good =
      let long = table_length_lem messages in
      let all = before_all messages in
      record {
        some = omega (arith, counts, fit.some);
        most = omega (arith, counts, fit.most);
        first = omega (arith, counts, offset_is 0 (omega arith));
        last = ap (offset table) counts ∙ offset_is n (omega arith) ∙ omega arith;
        each = λ i l.
            let there : i < n = omega (arith, counts) in record { rising = rising i there; utf8 = rw (message_is i there) (fit.utf8 i there) };
      }

  pub holds : Holds messages table
  holds = record { good = good_table table good; counts = counts; each = message_is }
