-- Laws of the reader: what a call that may refuse comes to as a total or as counts, and what a head that is not refused says.
-- By cases on the answer and by the tests of the numbers.
use Prim.Native.Nat.{ℕ, ◌<◌}
use native.Mathlib.Omega.{arith}
use mathlib.Core.Path.{◌≡◌, refl, ◌∙◌}
use mathlib.Core.Bool.{Bool, true, false, not, cond}
use mathlib.Core.List.{List}
use lib.Dec.{eqb}
use borrow.Author.Tests.{ne_eqb}
use Rattle.refusal.specs.Refusal.{bad_card, bad_file}
use Rattle.std.proofs.Common.{Result, Ok, Err, IfOk}
use Rattle.refusal.specs.declared.Refusal.{Refusal}
use Rattle.refusal.specs.declared.Refusal.TheVariants.{BadCard, BadFile}
use Rattle.refusal.specs.Number.{number, number_of, value_of}
use Rattle.refusal.proofs.First.{first_zero}
use Rattle.refusal.proofs.Number.{number_some, first_number}
use Rattle.file.specs.File.{header_good, card_count, run_count, cards_in_range}
use Rattle.file.specs.Runs.{runs_refusal}
use Rattle.file.proofs.Header.{header_length}
use Rattle.file.specs.Read.{tick_count, total_of, runs_read, head_refusal, read_refusal, read_outcome}

-- what a call that may refuse comes to: its ticks, or its number
pub total_is : (ran : Result ℕ Refusal) (refusal ticks : ℕ) → number_of ran ≡ refusal → IfOk ran (λ x. x ≡ ticks)
    → total_of ran ≡ cond (eqb refusal 0) (record { refusal = 0; ticks = ticks }) (record { refusal = refusal; ticks = 0 })
unfolding total_of number_of value_of
total_is (Ok x) refusal ticks e h = rw (← e, h)
total_is (Err r) refusal ticks e h = rw (ne_eqb refusal 0 (λ z. number_some r (e ∙ z)), e)

zero_if : (b : Bool) (k x : ℕ) → 0 < k → cond (not b) k x ≡ 0 → (b ≡ true) × (x ≡ 0)
zero_if true k x h e = (refl, e)
zero_if false k x h e = absurd (omega arith)

module _ (file : List ℕ) where
  abbrev pub runs : ℕ
  runs = runs_refusal file (run_count file)

  -- ---- the runs: what the call answers is what the runs come to
  pub runs_are : (ran : Result ℕ Refusal) → number_of ran ≡ runs → IfOk ran (λ ticks. ticks ≡ tick_count file) → total_of ran ≡ runs_read file
  unfolding runs_read
  runs_are ran e h = total_is ran _ _ e h

  -- ---- the reader
  pub read_no : (refusal : ℕ) → refusal ≡ read_refusal file → (refusal ≡ 0 → ⊥)
      → read_outcome file ≡ record { refusal = refusal; cards = 0; runs = 0; ticks = 0 }
  unfolding read_outcome
  read_no refusal e some = rw (← e, ne_eqb _ _ some)

  pub read_yes : read_refusal file ≡ 0 → read_outcome file ≡ record { refusal = 0; cards = card_count file; runs = run_count file; ticks = tick_count file }
  unfolding read_outcome
  read_yes e = rw e

  pub head_good : head_refusal file ≡ 0 → (header_good file ≡ true) × (cards_in_range file (card_count file) ≡ true)
  unfolding head_refusal
  head_good h =
      let header = zero_if (header_good file) bad_file _ (omega arith) h in
      (header.0, (zero_if (cards_in_range file (card_count file)) bad_card 0 (omega arith) header.1).0)

-- ---- the numbers of the head's refusals
pub bad_file_is : number BadFile ≡ bad_file
unfolding number
bad_file_is = refl

pub bad_card_is : number BadCard ≡ bad_card
unfolding number
bad_card_is = refl

-- what the calls that refuse are proved by: the head, one refusal before another, the reader
pub ruleset of_head = (header_length, bad_file_is, bad_card_is)

pub ruleset in_turn = (first_number, first_zero)

pub ruleset of_read = (read_yes, read_no, number_some)
