-- What a good table has: its header as facts, offsets that rise from the header's end to the table's, and messages that are UTF-8.
-- By the tests, one after the other; the offsets by induction on the messages between them.
use Prim.Native.Nat.{ℕ, zero, suc, ◌+◌, ◌≤◌, ◌<◌}
use native.Mathlib.Nat.{eq-or-lt_of_le}
use native.Mathlib.Numerals.{add-one}
use native.Mathlib.Omega.{arith}
use mathlib.Core.Path.{◌≡◌}
use mathlib.Core.Logic.{◌↔◌, ⊎_elim}
use mathlib.Core.Bool.{true, decide_iff}
use mathlib.Core.List.{List}
use lib.Dec.{eqb}
use lib.ListN.{length}
use borrow.Author.Tests.{eqb-true, eq-eqb}
use Rattle.numbers.proofs.Tests.{and_iff, leb_iff}
use Rattle.numbers.proofs.All.{all_each, each_all}
use Rattle.utf8.specs.Utf8.{Utf8}
use Rattle.utf8.proofs.Utf8.{utf8?}
use Rattle.texts.specs.Table.{most_messages, header_width, count, offset, message, header_good, message_good, table_good}

module _ (table : List ℕ) where
  pub record Message (i : ℕ) : Type 0 where
    pub rising : offset table i ≤ offset table (i + 1)
    pub utf8 : Utf8 (message table i)

  pub message_iff : (i : ℕ) → (message_good table i ≡ true) ↔ Message i
  unfolding message_good
  message_iff i = (
    λ e. let h = (and_iff _ _).0 e in record { rising = (leb_iff _ _).0 h.0; utf8 = (decide_iff (utf8? (message table i))).0 h.1 },
    λ m. (and_iff _ _).1 ((leb_iff _ _).1 m.rising, (decide_iff (utf8? (message table i))).1 m.utf8),
  )

  pub record Good : Type 0 where
    pub some : 1 ≤ count table
    pub most : count table ≤ most_messages
    pub first : offset table 0 ≡ header_width (count table)
    pub last : offset table (count table) ≡ length table
    pub each : (i : ℕ) → i < count table → Message i

  eqb_iff : (a b : ℕ) → (eqb a b ≡ true) ↔ (a ≡ b)
  eqb_iff a b = (eqb-true a b, eq-eqb a b)

  pub table_good_lem : table_good table ≡ true → Good
  unfolding table_good header_good
  table_good_lem e =
      let h = simp (and_iff, leb_iff, eqb_iff) at e in
      record {
        some = h.0.0.0.0;
        most = h.0.0.0.1;
        first = h.0.0.1;
        last = h.0.1;
        each = λ i l. (message_iff i).0 (all_each (message_good table) i (count table) l h.1);
      }

  pub good_table : Good → table_good table ≡ true
  unfolding table_good header_good
  good_table g =
      let each = each_all (message_good table) (count table) (λ i l. (message_iff i).1 (g.each i l)) in
      simp (and_iff, leb_iff, eqb_iff) ((((g.some, g.most), g.first), g.last), each)

  pub offsets_rise : Good → (i j : ℕ) → i ≤ j → j ≤ count table → offset table i ≤ offset table j
  offsets_rise g i zero l h = let e : i ≡ 0 = omega arith in rw e (omega arith)
  offsets_rise g i (suc j) l h =
      ⊎_elim
      (λ (e : i ≡ suc j). rw e (omega arith))
      (λ (k : i < suc j).
      let up = offsets_rise g i j (omega arith) (omega arith) in
      let on = rw add-one at (g.each j (omega arith)).rising in
      omega arith)
      (eq-or-lt_of_le l)

  pub offset_most : Good → (i : ℕ) → i ≤ count table → offset table i ≤ length table
  offset_most g i h = let up = offsets_rise g i (count table) h (omega arith) in omega (arith, g.last)

  -- the table's end does not cut its header
  pub header_whole : Good → header_width (count table) ≤ length table
  header_whole g = rw g.first at (offset_most g 0 (omega arith))
