-- The valve is open exactly when a cause is held: said of the causes that the desk holds after an accepted call, and of the byte of its answer.
-- With them the other two bytes: the lowest-numbered held cause (0 if none), and how many are held. A part of demand 2.
-- The same of every answer that an accepted exercise writes.
use Rattle.std.specs.Prelude.{ℕ, ◌+◌, ◌-◌, ◌*◌, ◌<◌, ◌≡◌, ◌↔◌, List, [], length, get_or}
use Rattle.card.specs.declared.Card.{Card}
use Rattle.record.specs.declared.Sample.{Sample}
use Rattle.causes.specs.Held.{held_in, listed, first_or}
use Rattle.state.specs.declared.State.{State}
use Rattle.rules.specs.After.{after}
use Rattle.desk.specs.declared.Desk.{Desk}
use Rattle.desk.specs.declared.Outcome.{Outcome}
use Rattle.file.specs.declared.Total.{Total}
use Rattle.file.specs.File.{card_in}
use Rattle.file.specs.Read.{tick_count, drive}
use Rattle.demands.specs.Functions.{Functions}

-- the numbers of the causes that the state holds
abbrev pub held : State → List ℕ
held state = listed (held_in state.causes)

-- what three bytes of an answer say: the causes (the valve is open exactly when this byte is not 0), the lowest of them, how many
pub record ValveIs (causes lowest many : ℕ) (state : State) : Type 0 where
  pub open_when : (causes ≡ 0 → ⊥) ↔ (held state ≡ [] → ⊥)
  pub causes_are : causes ≡ state.causes
  pub lowest_is : lowest ≡ first_or 0 (held state)
  pub many_are : many ≡ length (held state)

-- the answer and the desk of an outcome
abbrev pub OfOutcome : Outcome → Type 0
OfOutcome out = ValveIs out.answer.causes out.answer.lowest out.answer.held out.desk.state

-- the last three bytes of each answer, and a fresh desk of the card fed the records up to its tick
abbrev pub OfEach : List ℕ → ℕ → List ℕ → Type 0
OfEach file card left =
    (i : ℕ) → i < tick_count file → ValveIs (get_or left (8 * i + 5) 0) (get_or left (8 * i + 6) 0) (get_or left (8 * i + 7) 0)
    (after (card_in file (card - 1)) (drive file) (i + 1)).state

pub record Valve (F : Functions) : Type 0 where
  pub opening : (card : Card) (out : Outcome) → F.opens card out → out.refusal ≡ 0 → OfOutcome out
  pub tick : (desk : Desk) (sample : Sample) (journal : List ℕ) (out : Outcome) (left : List ℕ) →
      F.ticks desk sample journal out left → out.refusal ≡ 0 → OfOutcome out
  pub step_back : (desk : Desk) (k : ℕ) (journal : List ℕ) (out : Outcome) (left : List ℕ) →
      F.steps_back desk k journal out left → out.refusal ≡ 0 → OfOutcome out
  pub restart : (desk : Desk) (out : Outcome) → F.restarts desk out → out.refusal ≡ 0 → OfOutcome out
  pub exercise : (file : List ℕ) (card : ℕ) (buffer : List ℕ) (total : Total) (file_left left : List ℕ) →
      F.runs file card buffer total file_left left → total.refusal ≡ 0 → OfEach file card left
  pub host : (file : List ℕ) (card : ℕ) (buffer : List ℕ) (number : ℕ) (file_left left : List ℕ) →
      F.hosts file card buffer number file_left left → number - 10000 ≡ 0 → OfEach file card left
