-- Laws of the run: what an accepted run says, and what is returned and left in the buffer then and else.
-- By the chain of numbers, first to last.
use Prim.Native.Nat.{ℕ, ◌-◌, ◌*◌, ◌≤◌, ◌<◌}
use Rattle.std.proofs.Common.{Result, IfOk}
use native.Mathlib.Omega.{arith}
use mathlib.Core.Path.{◌≡◌, refl, sym, ap₂, ◌∙◌}
use mathlib.Core.Bool.{Bool, true, false, ◌&&◌, cond}
use mathlib.Core.List.{List}
use lib.Dec.{leb, ltb, eqb}
use lib.ListN.{length}
use borrow.Author.Tests.{eqb-true, eq-eqb, ne_eqb, ltb-false}
use Rattle.numbers.proofs.Tests.{and_iff, leb_iff}
use Rattle.numbers.proofs.All.{all_each}
use Rattle.layout.specs.Layout.{written}
use Rattle.card.specs.declared.Card.{Card}
use Rattle.card.specs.Card.{CardRanges, card_in_range}
use Rattle.card.specs.Laws.{card_ranges}
use Rattle.refusal.specs.Refusal.{short_buffer, no_such_card}
use Rattle.refusal.specs.Number.{number, number_of}
use Rattle.refusal.specs.declared.Refusal.{Refusal}
use Rattle.refusal.specs.declared.Refusal.TheVariants.{ShortBuffer}
use Rattle.refusal.proofs.First.{both_zero, first_zero}
use Rattle.refusal.proofs.Number.{number_some, first_number}
use Rattle.file.specs.File.{card_count, run_count, header_good, card_in}
use Rattle.file.specs.Runs.{runs_refusal}
use Rattle.file.specs.Read.{tick_count, drive, total_of, head_refusal}
use Rattle.file.proofs.Reader.{total_is, head_good}
use Rattle.rules.specs.Answer.{answer_width}
use Rattle.exercise.specs.Answers.{answers}
use Rattle.exercise.specs.Run.{number_refusal, exercise_refusal, exercise_outcome, exercise_buffer}

-- a number that is given where a test fails
zero_of : (b : Bool) (k : ℕ) → 0 < k → cond b 0 k ≡ 0 → b ≡ true
zero_of true k h e = refl
zero_of false k h e = absurd (omega arith)

module _ (file : List ℕ) (card room : ℕ) where
  -- what the call answers is the outcome
  pub outcome_is : (ran : Result ℕ Refusal) → number_of ran ≡ exercise_refusal file card room → IfOk ran (λ ticks. ticks ≡ tick_count file)
      → total_of ran ≡ exercise_outcome file card room
  unfolding exercise_outcome
  outcome_is ran e h = total_is ran _ _ e h

  pub run_number : (exercise_outcome file card room).refusal ≡ exercise_refusal file card room
  unfolding exercise_outcome
  run_number = go (eqb (exercise_refusal file card room) 0) refl
    where
      go : (b : Bool) → eqb (exercise_refusal file card room) 0 ≡ b → (exercise_outcome file card room).refusal ≡ exercise_refusal file card room
      go true e = rw e (sym (eqb-true _ 0 e))
      go false e = rw e

-- what an accepted run says
pub record RunTaken (file : List ℕ) (card room : ℕ) : Type 0 where
  pub low : 1 ≤ card
  pub high : card ≤ card_count file
  pub good_header : header_good file ≡ true
  pub card_good : CardRanges (card_in file (card - 1))
  pub runs_good : runs_refusal file (run_count file) ≡ 0
  pub fits : answer_width * tick_count file ≤ room

pub run_taken : (file : List ℕ) (card room : ℕ) → exercise_refusal file card room ≡ 0 → RunTaken file card room
unfolding exercise_refusal
run_taken file card room e =
    let a = both_zero (head_refusal file) _ e in
    let head = head_good file a.0 in
    let b = both_zero (number_refusal file card) _ a.1 in
    let c = both_zero (runs_refusal file (run_count file)) _ b.1 in
    let there = (and_iff (leb 1 card) (leb card (card_count file))).0 (zero_of (leb 1 card && leb card (card_count file)) no_such_card (omega arith) b.0) in
    let low : 1 ≤ card = (leb_iff _ _).0 there.0 in
    let high : card ≤ card_count file = (leb_iff _ _).0 there.1 in
    record {
      low = low;
      high = high;
      good_header = head.0;
      card_good = card_ranges _ (all_each (λ i. card_in_range (card_in file i)) (card - 1) (card_count file) (omega arith) head.1);
      runs_good = c.0;
      fits = ltb-false _ _ (room_left (ltb room (answer_width * tick_count file)) c.1);
    }
  where
    room_left : (b : Bool) → ◌≡◌ {A = ℕ} (cond b short_buffer 0) 0 → b ≡ false
    room_left true e = absurd (omega arith)
    room_left false e = refl

module _ (file : List ℕ) (card : ℕ) (buffer : List ℕ) where
  pub buffer_yes : exercise_refusal file card (length buffer) ≡ 0 →
      exercise_buffer file card buffer ≡ written buffer 0 (answers (card_in file (card - 1)) (drive file) (tick_count file))
  unfolding exercise_buffer
  buffer_yes e = rw (eq-eqb _ _ e)

  pub buffer_no : (exercise_refusal file card (length buffer) ≡ 0 → ⊥) → exercise_buffer file card buffer ≡ buffer
  unfolding exercise_buffer
  buffer_no e = rw (ne_eqb _ _ e)

  -- the same, by what the code finds
  pub buffer_kept : (refusal : Refusal) → number refusal ≡ exercise_refusal file card (length buffer) → buffer ≡ exercise_buffer file card buffer
  buffer_kept refusal e = sym (buffer_no (λ z. number_some refusal (e ∙ z)))

  pub buffer_left : (left other : List ℕ) (c : Card) → left ≡ written buffer 0 (answers c (drive other) (tick_count other))
      → 0 ≡ exercise_refusal file card (length buffer) → other ≡ file → c ≡ card_in file (card - 1) → left ≡ exercise_buffer file card buffer
  buffer_left left other c e h f k = e ∙ ap₂ (λ (x : List ℕ) (y : Card). written buffer 0 (answers y (drive x) (tick_count x))) f k ∙ sym (buffer_yes (sym h))

-- what the refusals are proved by, one before another
pub short_buffer_is : number ShortBuffer ≡ short_buffer
unfolding number
short_buffer_is = refl

pub ruleset in_turn = (first_number, first_zero, short_buffer_is)
