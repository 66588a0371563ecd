-- What each call on a desk returns, and what a tick leaves in the journal. A refusal number of 0 is none; the numbers stand in the paper's order.
use Rattle.std.specs.Prelude.{ℕ, ◌+◌, ◌-◌, ◌*◌, List, not, cond, leb, ltb, eqb, length}
use Rattle.layout.specs.Layout.{written}
use Rattle.refusal.specs.Refusal.{bad_card, bad_desk, short_journal, full_journal, back_too_far, bad_record, first_refusal}
use Rattle.card.specs.declared.Card.{Card}
use Rattle.card.specs.Card.{card_in_range}
use Rattle.record.specs.declared.Sample.{Sample}
use Rattle.record.specs.Record.{record_width, record_bytes}
use Rattle.record.specs.Sample.{sample_refusal, sample_record}
use Rattle.rules.specs.declared.AfterTick.{AfterTick}
use Rattle.rules.specs.Answer.{no_answer}
use Rattle.rules.specs.Tick.{advance}
use Rattle.rules.specs.After.{after}
use Rattle.desk.specs.declared.Desk.{Desk}
use Rattle.desk.specs.declared.Outcome.{Outcome}
use Rattle.journal.specs.Journal.{capacity, records, all_in_range}
use Rattle.desk.specs.Desk.{desk_in_range, fresh_desk, no_desk}

-- a refusal: its number, the desk handed in (zeros at opening), and an answer of zeros
abbrev pub refused : Desk → ℕ → Outcome
refused desk number = record { desk = desk; answer = no_answer; refusal = number }

-- opening and restart: a fresh desk, and an answer of zeros
abbrev pub begun : Card → Outcome
begun card = record { desk = fresh_desk card; answer = no_answer; refusal = 0 }

-- a desk of n ticks, in the state and with the answer that a tick gave
abbrev pub accepted : Card → ℕ → AfterTick → Outcome
accepted card n tick = record { desk = record { card = card; n = n; state = tick.state }; answer = tick.answer; refusal = 0 }

-- opening: 4
unfoldable pub open_outcome : Card → Outcome
open_outcome card = cond (not (card_in_range card)) (refused no_desk bad_card) (begun card)

-- 5, 6: whether the desk, with a journal of so many bytes, is fit for a tick, a step back or why
unfoldable pub desk_refusal : Desk → ℕ → ℕ
desk_refusal desk bytes = cond (not (desk_in_range desk)) bad_desk (cond (ltb bytes (record_width * desk.n)) short_journal 0)

-- tick: 5, 6, 7, then 1, 2, 3 of the sample
unfoldable pub tick_refusal_of : Desk → ℕ → ℕ → ℕ
tick_refusal_of desk of_sample bytes = first_refusal (desk_refusal desk bytes) (cond (leb (capacity bytes) desk.n) full_journal of_sample)

module _ (desk : Desk) (sample : Sample) (journal : List ℕ) where
  abbrev pub tick_refusal : ℕ
  tick_refusal = tick_refusal_of desk (sample_refusal sample) (length journal)

  unfoldable pub tick_outcome : Outcome
  tick_outcome =
      cond (eqb tick_refusal 0) (accepted desk.card (desk.n + 1) (advance desk.card desk.state (sample_record sample)))
      (refused desk tick_refusal)

  -- the record is written to bytes 8n to 8n + 7, no other byte changes
  unfoldable pub tick_journal : List ℕ
  tick_journal = cond (eqb tick_refusal 0) (written journal (record_width * desk.n) (record_bytes (sample_record sample))) journal

-- step back: 5, 6, 8, 9
module _ (desk : Desk) (k : ℕ) (journal : List ℕ) where
  unfoldable pub back_refusal : ℕ
  back_refusal =
      first_refusal (desk_refusal desk (length journal))
      (cond (ltb desk.n k) back_too_far
      (cond (not (all_in_range journal (desk.n - k))) bad_record 0))

  -- rebuilt from the first n − k records
  unfoldable pub back_outcome : Outcome
  back_outcome =
      cond (eqb back_refusal 0) (accepted desk.card (desk.n - k) (after desk.card (records journal) (desk.n - k)))
      (refused desk back_refusal)

-- restart: 5
unfoldable pub restart_outcome : Desk → Outcome
restart_outcome desk = cond (not (desk_in_range desk)) (refused desk bad_desk) (begun desk.card)
