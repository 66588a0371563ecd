-- The text of a message in a language: the chosen table, the refusal, and the part of the table.
-- Proved of the calls: `Reason`, why each refusal is given, in proofs/Answers.antt; that the other table has no influence, in proofs/Determined.antt.
use Rattle.std.specs.Prelude.{ℕ, ◌+◌, not, ◌||◌, cond, List, leb, eqb}
use Rattle.std.proofs.Math.Seq.{slice}
use Rattle.std.specs.Borrow.{Bor}
use Rattle.refusal.specs.Refusal.{bad_table, no_such_message, no_such_language}
use Rattle.texts.specs.Table.{count, offset, table_good}
use Rattle.texts.specs.declared.Place.{Place}

-- the first for language 1, the second for 2; any other language is refused, whatever the tables
abbrev pub chosen : {A : Type 0} → ℕ → A → A → A
chosen language first second = cond (eqb language 2) second first

-- of the chosen table
module _ (table : List ℕ) (language number : ℕ) where
  -- 17: language not 1 or 2; 15: table bad; 16: message number not below the count
  unfoldable pub text_refusal : ℕ
  text_refusal =
      cond (not (eqb language 1 || eqb language 2)) no_such_language
      (cond (not (table_good table)) bad_table
      (cond (leb (count table) number) no_such_message 0))

  -- the refusal, and where the message begins and ends in the table, zeros if refused
  unfoldable pub text_place : Place
  text_place =
      cond (eqb text_refusal 0) (record { refusal = 0; start = offset table number; end = offset table (number + 1) })
      (record { refusal = text_refusal; start = 0; end = 0 })

  -- the part of the table that is the answer, empty if refused
  abbrev pub text_part : List ℕ
  text_part = slice text_place.start text_place.end table

-- where that part lies: in the lent table's own block of memory, its start behind the table's first byte, so it is no copy
abbrev pub text_address : Bor (List ℕ) → ℕ → ℕ → ℕ × ℕ
text_address table language number = (table.ref_ptr.0, (text_place table.now language number).start + table.ref_ptr.1)
