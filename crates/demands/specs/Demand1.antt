-- Demand 1: every call asks nothing of its caller and returns, whatever is handed over; refused, it returns a number of its list and, from a call that
-- gives back a desk, an answer of zeros and the desk handed in (a desk of zeros at opening), and every lent byte keeps its value.
-- That the code comes to its end is what the check proves of every function.
use Rattle.std.specs.Prelude.{ℕ, ◌<◌, ◌≡◌, ◌⊎◌, List, [], ◌∷◌}
use Rattle.card.specs.declared.Card.{Card}
use Rattle.record.specs.declared.Sample.{Sample}
use Rattle.desk.specs.declared.Desk.{Desk}
use Rattle.desk.specs.declared.Outcome.{Outcome}
use Rattle.why.specs.declared.Reasons.{Reasons}
use Rattle.file.specs.declared.Counts.{Counts}
use Rattle.file.specs.declared.Total.{Total}
use Rattle.demands.specs.Functions.{Functions}
use Rattle.demands.specs.Ranges.{zero_desk, zero_answer, zero_reasons}

-- whatever is handed over, the call may be made, and something is returned that its contract allows. `left` is the journal or the buffer afterwards,
-- `file_left` the file
pub record Returning (F : Functions) : Type 2 where
  pub opening : (card : Card) → F.opens_asks card × (out : Outcome) × F.opens card out
  pub tick : (desk : Desk) (sample : Sample) (journal : List ℕ) → F.ticks_asks desk sample journal
      × (out : Outcome) × (left : List ℕ) × F.ticks desk sample journal out left
  pub step_back : (desk : Desk) (k : ℕ) (journal : List ℕ) → F.steps_back_asks desk k journal
      × (out : Outcome) × (left : List ℕ) × F.steps_back desk k journal out left
  pub restart : (desk : Desk) → F.restarts_asks desk × (out : Outcome) × F.restarts desk out
  pub why : (desk : Desk) (journal : List ℕ) → F.tells_asks desk journal
      × (reasons : Reasons) × (left : List ℕ) × F.tells desk journal reasons left
  pub reader : (file : List ℕ) → F.reads_asks file × (counts : Counts) × (file_left : List ℕ) × F.reads file counts file_left
  pub exercise : (file : List ℕ) (card : ℕ) (buffer : List ℕ) → F.runs_asks file card buffer
      × (total : Total) × (file_left left : List ℕ) × F.runs file card buffer total file_left left
  pub host : (file : List ℕ) (card : ℕ) (buffer : List ℕ) → F.hosts_asks file card buffer
      × (number : ℕ) × (file_left left : List ℕ) × F.hosts file card buffer number file_left left

unfoldable pub OneOf : List ℕ → ℕ → Type 0
OneOf [] x = ⊥
OneOf (number ∷ numbers) x = (x ≡ number) ⊎ OneOf numbers x

-- what a refused call returns: one of the numbers, this desk, an answer of zeros
pub record Refused (numbers : List ℕ) (back : Desk) (out : Outcome) : Type 0 where
  pub number : OneOf numbers out.refusal
  pub desk : out.desk ≡ back
  pub answer : out.answer ≡ zero_answer

pub record Demand1 (F : Functions) : Type 2 where
  pub returning : Returning F
  pub opening : (card : Card) (out : Outcome) → F.opens card out →
      (out.refusal ≡ 0 → ⊥) → Refused (4 ∷ []) zero_desk out
  pub tick : (desk : Desk) (sample : Sample) (journal : List ℕ) (out : Outcome) (left : List ℕ) → F.ticks desk sample journal out left →
      (out.refusal ≡ 0 → ⊥) → Refused (5 ∷ 6 ∷ 7 ∷ 1 ∷ 2 ∷ 3 ∷ []) desk out × (left ≡ journal)
  pub step_back : (desk : Desk) (k : ℕ) (journal : List ℕ) (out : Outcome) (left : List ℕ) → F.steps_back desk k journal out left →
      (out.refusal ≡ 0 → ⊥) → Refused (5 ∷ 6 ∷ 8 ∷ 9 ∷ []) desk out × (left ≡ journal)
  pub restart : (desk : Desk) (out : Outcome) → F.restarts desk out →
      (out.refusal ≡ 0 → ⊥) → Refused (5 ∷ []) desk out
  -- why the valve is open: zeros for every cause
  pub why : (desk : Desk) (journal : List ℕ) (reasons : Reasons) (left : List ℕ) → F.tells desk journal reasons left →
      (reasons.refusal ≡ 0 → ⊥) → OneOf (5 ∷ 6 ∷ 9 ∷ 23 ∷ 14 ∷ []) reasons.refusal
      × (reasons ≡ zero_reasons reasons.refusal) × (left ≡ journal)
  -- the reader and the exercise: counts of zeros
  pub reader : (file : List ℕ) (counts : Counts) (file_left : List ℕ) → F.reads file counts file_left →
      (counts.refusal ≡ 0 → ⊥) → OneOf (10 ∷ 4 ∷ 11 ∷ 9 ∷ []) counts.refusal
      × (counts.cards ≡ 0) × (counts.runs ≡ 0) × (counts.ticks ≡ 0) × (file_left ≡ file)
  pub exercise : (file : List ℕ) (card : ℕ) (buffer : List ℕ) (total : Total) (file_left left : List ℕ) →
      F.runs file card buffer total file_left left → (total.refusal ≡ 0 → ⊥) →
      OneOf (10 ∷ 4 ∷ 13 ∷ 11 ∷ 9 ∷ 12 ∷ []) total.refusal × (total.ticks ≡ 0) × (file_left ≡ file) × (left ≡ buffer)
  -- no exercise has more than 7,200 ticks: a greater number is a refusal
  pub host : (file : List ℕ) (card : ℕ) (buffer : List ℕ) (number : ℕ) (file_left left : List ℕ) →
      F.hosts file card buffer number file_left left → 7200 < number →
      OneOf (10010 ∷ 10004 ∷ 10013 ∷ 10011 ∷ 10009 ∷ 10012 ∷ []) number × (file_left ≡ file) × (left ≡ buffer)
