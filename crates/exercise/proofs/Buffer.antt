-- What is written into the buffer tick by tick is the answers of the ticks so far; and where a tick's answer lies among them.
-- By `written-append`, one answer more.
use Prim.Native.Nat.{ℕ, zero, suc, ◌+◌, ◌*◌, ◌≤◌, ◌<◌}
use native.Mathlib.Decide.{ℕ_discrete}
use native.Mathlib.Nat.{zero-add}
use native.Mathlib.Numerals.{add-one}
use native.Mathlib.Omega.{arith}
use mathlib.Core.Path.{◌≡◌, refl, sym, ap, ◌∙◌}
use mathlib.Core.List.{List, ◌++◌}
use lib.ListN.{length, length-append, get_or, get_or-append}
use lib.Seq.{get_or-drop, drop_at}
use Rattle.layout.specs.Layout.{written}
use Rattle.layout.proofs.Written.{written-append}
use Rattle.card.specs.declared.Card.{Card}
use Rattle.record.specs.declared.Record.{Record}
use Rattle.rules.specs.After.{after}
use Rattle.rules.specs.Answer.{answer_width, answer_bytes}
use Rattle.exercise.specs.Answers.{answers}

module _ (card : Card) (H : ℕ → Record) where
  pub answers_next : (m : ℕ) → answers card H (m + 1) ≡ answers card H m ++ answer_bytes (after card H (m + 1)).answer
  unfolding answers
  answers_next m = rw add-one

  pub answers_length : (m : ℕ) → length (answers card H m) ≡ answer_width * m
  unfolding answers
  answers_length zero = refl
  answers_length (suc m) = omega (arith, length-append (answers card H m) (answer_bytes (after card H (suc m)).answer), answers_length m)

  -- the buffer with one answer more
  pub one_more : (buffer : List ℕ) (m : ℕ) → answer_width * (m + 1) ≤ length buffer →
      written (written buffer 0 (answers card H m)) (answer_width * m) (answer_bytes (after card H (m + 1)).answer) ≡ written buffer 0 (answers card H (m + 1))
  one_more buffer m fits =
      let a = answers card H m in
      let b = answer_bytes (after card H (m + 1)).answer in
      let l : length a ≡ answer_width * m = answers_length m in
      ap (λ (n : ℕ). written (written buffer 0 a) n b) (sym (zero-add _ ∙ l))
      ∙ written-append buffer 0 a b (omega arith)
      ∙ ap (written buffer 0) (sym (answers_next m))

  -- byte j of the i-th tick's answer
  pub answers_byte : (m i j : ℕ) → i < m → j < answer_width
      → get_or (answers card H m) (answer_width * i + j) 0 ≡ get_or (answer_bytes (after card H (i + 1)).answer) j 0
  answers_byte zero i j h l = absurd (omega arith)
  answers_byte (suc m) i j h l = go (ℕ_discrete i m) (answers_byte m i j)
    where
      a : List ℕ
      a = answers card H m

      b : List ℕ
      b = answer_bytes (after card H (m + 1)).answer

      is : answers card H (suc m) ≡ a ++ b
      is = ap (answers card H) (sym (add-one m)) ∙ answers_next m

      byte : ℕ → ℕ
      byte k = get_or (answer_bytes (after card H (k + 1)).answer) j 0

      go : Dec (i ≡ m) → (i < m → j < answer_width → get_or a (answer_width * i + j) 0 ≡ byte i)
          → get_or (answers card H (suc m)) (answer_width * i + j) 0 ≡ byte i
      go (yes e) before =
          rw is
          (ap (λ (k : ℕ). get_or (a ++ b) (answer_width * k + j) 0) e
          ∙ sym (get_or-drop (answer_width * m) (a ++ b) j 0)
          ∙ ap (λ (x : List ℕ). get_or x j 0) (drop_at a b (answer_width * m) (answers_length m))
          ∙ ap byte (sym e))
      go (no n) before = rw is (get_or-append a b 0 (answer_width * i + j) (omega (arith, answers_length m)) ∙ before (omega arith) l)
