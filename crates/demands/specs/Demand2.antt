-- Demand 2: an accepted tick gives exactly the answer and the desk of the rules, and a desk in range again; each refusal is given exactly when
-- the paper says. The same of every other call. The rules are `advance`, a tick; `after`, a fresh state fed so many records; `answers`, the bytes of the
-- answers. Where a record, an answer, a card or a run lies among bytes is said by record/specs/Record.antt, rules/specs/Answer.antt, file/specs/File.antt.
-- That an answer tells the causes that are held, and how many, is a page of its own, Valve.antt; what the call promises that tells why the valve is
-- open, why/specs/Promise.antt.
use Rattle.std.specs.Prelude.{ℕ, ◌+◌, ◌-◌, ◌*◌, ◌≤◌, ◌<◌, ◌≡◌, List, ◌++◌, take, drop}
use Rattle.card.specs.declared.Card.{Card}
use Rattle.record.specs.declared.Sample.{Sample}
use Rattle.record.specs.declared.Record.{Record}
use Rattle.record.specs.Record.{record_bytes, record_at}
use Rattle.record.specs.Sample.{sample_record}
use Rattle.rules.specs.declared.AfterTick.{AfterTick}
use Rattle.rules.specs.Tick.{advance}
use Rattle.rules.specs.After.{after}
use Rattle.desk.specs.declared.Desk.{Desk}
use Rattle.desk.specs.declared.Outcome.{Outcome}
use Rattle.why.specs.declared.Reasons.{Reasons}
use Rattle.why.specs.Promise.{Promise}
use Rattle.file.specs.declared.Counts.{Counts}
use Rattle.file.specs.declared.Total.{Total}
use Rattle.file.specs.File.{card_count, run_count, card_in, run_record}
use Rattle.file.specs.Runs.{ticks_to}
use Rattle.file.specs.Read.{tick_count, drive}
use Rattle.exercise.specs.Answers.{answers}
use Rattle.demands.specs.Functions.{Functions}
use Rattle.demands.specs.Ranges.{DeskFits, fresh_of, zero_answer}
use Rattle.demands.specs.Reasons.{SpeedIs, BandIs, ExactlyWhen}
use Rattle.demands.specs.Reasons.{open_reasons, tick_reasons, back_reasons, restart_reasons, why_reasons, read_reasons, exercise_reasons}

-- the record of a sample: v and band exactly as the floats say, the switches as they are
pub record RecordOf (sample : Sample) (rec : Record) : Type 0 where
  pub v : SpeedIs sample.speed rec.v
  pub band : BandIs sample.pressure rec.band
  pub code : rec.code ≡ sample.code
  pub mode : rec.mode ≡ sample.mode
  pub lever : rec.lever ≡ sample.lever
  pub flags : rec.flags ≡ sample.flags
  pub sense : rec.sense ≡ sample.sense

-- what an accepted call returns: a desk of n ticks, in range, in the state and with the answer that the rules give
pub record Gives (card : Card) (n : ℕ) (rules : AfterTick) (out : Outcome) : Type 0 where
  pub desk : out.desk ≡ record { card = card; n = n; state = rules.state }
  pub answer : out.answer ≡ rules.answer
  pub in_range : DeskFits out.desk

-- opening and restart
pub record Begins (card : Card) (out : Outcome) : Type 0 where
  pub desk : out.desk ≡ fresh_of card
  pub answer : out.answer ≡ zero_answer
  pub in_range : DeskFits out.desk

-- the record is written to bytes 8n to 8n + 7, no other byte changes
abbrev pub WrittenAt : ℕ → Record → List ℕ → List ℕ → Type 0
WrittenAt n rec journal left = left ≡ take (8 * n) journal ++ record_bytes rec ++ drop (8 * n + 8) journal

-- the record of a run is that of each of its ticks
abbrev pub Driven : List ℕ → Type 0
Driven file = (j i : ℕ) → j < run_count file → ticks_to file j ≤ i → i < ticks_to file (j + 1) → drive file i ≡ run_record file j

-- 8 bytes a tick, from a fresh desk of the card; later bytes keep their values
abbrev pub Answered : List ℕ → ℕ → List ℕ → List ℕ → Type 0
Answered file card buffer left =
    left ≡ answers (card_in file (card - 1)) (drive file) (tick_count file) ++ drop (8 * tick_count file) buffer

pub record Demand2 (F : Functions) : Type 0 where
  pub opening : (card : Card) (out : Outcome) → F.opens card out →
      ExactlyWhen out.refusal (open_reasons card)
      × (out.refusal ≡ 0 → Begins card out)
  pub tick : (desk : Desk) (sample : Sample) (journal : List ℕ) (out : Outcome) (left : List ℕ) → F.ticks desk sample journal out left →
      ExactlyWhen out.refusal (tick_reasons desk sample journal)
      × (out.refusal ≡ 0 → RecordOf sample (sample_record sample) × WrittenAt desk.n (sample_record sample) journal left
      × Gives desk.card (desk.n + 1) (advance desk.card desk.state (sample_record sample)) out)
  pub step_back : (desk : Desk) (k : ℕ) (journal : List ℕ) (out : Outcome) (left : List ℕ) → F.steps_back desk k journal out left →
      ExactlyWhen out.refusal (back_reasons desk k journal)
      × (out.refusal ≡ 0 → (left ≡ journal)
      × Gives desk.card (desk.n - k) (after desk.card (λ i. record_at journal (8 * i)) (desk.n - k)) out)
  pub restart : (desk : Desk) (out : Outcome) → F.restarts desk out →
      ExactlyWhen out.refusal (restart_reasons desk)
      × (out.refusal ≡ 0 → Begins desk.card out)
  pub why : (desk : Desk) (journal : List ℕ) (reasons : Reasons) (left : List ℕ) → F.tells desk journal reasons left →
      ExactlyWhen reasons.refusal (why_reasons desk journal) × Promise desk journal reasons × (left ≡ journal)
  pub reader : (file : List ℕ) (counts : Counts) (file_left : List ℕ) → F.reads file counts file_left →
      ExactlyWhen counts.refusal (read_reasons file)
      × (counts.refusal ≡ 0 → (counts.cards ≡ card_count file) × (counts.runs ≡ run_count file) × (counts.ticks ≡ tick_count file)
      × (file_left ≡ file))
  pub exercise : (file : List ℕ) (card : ℕ) (buffer : List ℕ) (total : Total) (file_left left : List ℕ) →
      F.runs file card buffer total file_left left →
      ExactlyWhen total.refusal (exercise_reasons file card buffer)
      × (total.refusal ≡ 0 → (total.ticks ≡ tick_count file) × (file_left ≡ file) × Driven file × Answered file card buffer left)
  -- a refusal is 10,000 plus its number: what is above 10,000 is that number, 0 where the call is accepted
  pub host : (file : List ℕ) (card : ℕ) (buffer : List ℕ) (number : ℕ) (file_left left : List ℕ) →
      F.hosts file card buffer number file_left left →
      ExactlyWhen (number - 10000) (exercise_reasons file card buffer)
      × (number - 10000 ≡ 0 → (number ≡ tick_count file) × (number ≤ 7200) × (file_left ≡ file) × Driven file × Answered file card buffer left)
