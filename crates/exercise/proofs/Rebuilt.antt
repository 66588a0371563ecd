-- The k-th answer of an exercise is that of a desk of its card rebuilt to tick k: stepped back to its first k records, which are the exercise's.
-- Both are the answer of one drive, `after`, at k.
use Prim.Native.Nat.{ℕ, zero, suc, ◌-◌, ◌*◌, ◌<◌}
use native.Mathlib.Nat.{le_of_suc-le-suc, eq-or-lt_of_le}
use native.Mathlib.Omega.{arith}
use mathlib.Core.Path.{◌≡◌, sym, ap, ◌∙◌}
use mathlib.Core.Logic.{⊎_elim}
use mathlib.Core.List.{List}
use lib.ListN.{length, take, drop, length-drop}
use lib.Seq.{take-append-le, drop-append-le, drop_at}
use Rattle.card.specs.declared.Card.{Card}
use Rattle.record.specs.declared.Record.{Record}
use Rattle.rules.specs.declared.AfterTick.{AfterTick}
use Rattle.rules.specs.After.{after}
use Rattle.rules.proofs.After.{after_same}
use Rattle.desk.specs.declared.Desk.{Desk}
use Rattle.desk.specs.declared.Outcome.{Outcome}
use Rattle.journal.specs.Journal.{records}
use Rattle.desk.specs.Calls.{back_refusal, back_outcome}
use Rattle.desk.proofs.Calls.{back_yes}
use Rattle.rules.specs.Answer.{answer_width, answer_bytes}
use Rattle.exercise.specs.Answers.{answers}
use Rattle.exercise.proofs.Buffer.{answers_length}

-- the eight bytes of the tick after j others
abbrev pub answer_at : List ℕ → ℕ → List ℕ
answer_at bytes j = take answer_width (drop (answer_width * j) bytes)

module _ (card : Card) (H : ℕ → Record) where
  pub answer_at_is : (m j : ℕ) → j < m → answer_at (answers card H m) j ≡ answer_bytes (after card H (suc j)).answer
  unfolding answers
  answer_at_is zero j h = absurd (omega arith)
  answer_at_is (suc m) j h =
      let a = answers card H m in
      let b = answer_bytes (after card H (suc m)).answer in
      let l : length a ≡ answer_width * m = answers_length card H m in
      ⊎_elim
      (λ (e : j ≡ m).
      rw e (ap (take answer_width) (drop_at a b (answer_width * m) l)))
      (λ (k : j < m).
      ap (take answer_width) (drop-append-le (answer_width * j) a b (omega arith))
      ∙ take-append-le answer_width (drop (answer_width * j) a) b (rw length-drop (omega arith))
      ∙ answer_at_is m j k)
      (eq-or-lt_of_le (le_of_suc-le-suc h))

  pub rebuilt_answer : (d : Desk) (back : ℕ) (J : List ℕ) → back_refusal d back J ≡ 0 → d.card ≡ card
      → ((i : ℕ) → i < d.n - back → records J i ≡ H i) → (back_outcome d back J).answer ≡ (after card H (d.n - back)).answer
  rebuilt_answer d back J taken same held =
      ap (λ (x : Outcome). x.answer) (back_yes d back J taken)
      ∙ ap (λ (c : Card). (after c (records J) (d.n - back)).answer) same
      ∙ ap (λ (x : AfterTick). x.answer) (after_same card (records J) H (d.n - back) held)

  pub as_rebuilt : (m j : ℕ) → j < m → (d : Desk) (back : ℕ) (J : List ℕ) → back_refusal d back J ≡ 0 → d.card ≡ card
      → d.n - back ≡ suc j
      → ((i : ℕ) → i < suc j → records J i ≡ H i) → answer_at (answers card H m) j ≡ answer_bytes (back_outcome d back J).answer
  as_rebuilt m j h d back J taken same k held =
      answer_at_is m j h
      ∙ ap answer_bytes (ap (λ (n : ℕ). (after card H n).answer) (sym k) ∙ sym (rebuilt_answer d back J taken same (λ i l. held i (omega arith))))
