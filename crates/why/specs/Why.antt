-- Request 1: why the valve is open. For each held cause the tick at which its present holding began, and that tick's record. Ticks count from 1.
use Rattle.std.specs.Prelude.{ℕ, ◌-◌, Bool, not, ◌&&◌, cond, List, eqb, length}
use Rattle.std.proofs.Math.Bool.{decide}
use Rattle.numbers.specs.Last.{last_of}
use Rattle.refusal.specs.Refusal.{bad_record, valve_closed, other_desk, first_refusal}
use Rattle.card.specs.declared.Card.{Card}
use Rattle.record.specs.declared.Record.{Record}
use Rattle.causes.specs.Held.{held_in}
use Rattle.causes.specs.Cause.{Cause, NZ1, NZ2, NZ3, NZ4, NZ5, among}
use Rattle.rules.specs.After.{after}
use Rattle.journal.specs.Journal.{records, all_in_range}
use Rattle.desk.specs.declared.Desk.{Desk}
use Rattle.desk.specs.Calls.{desk_refusal}
use Rattle.same.proofs.Desks.{same_desk?}
use Rattle.why.specs.declared.Reason.{Reason}
use Rattle.why.specs.declared.Reasons.{Reasons}

abbrev pub no_reason : Reason
no_reason = record { tick = 0; reading = record { v = 0; code = 0; mode = 0; lever = 0; flags = 0; band = 0; sense = 0 } }

-- H: the records, that of tick t at place t − 1

-- nothing for a cause that is not held; else the tick, and its record
unfoldable pub reason_of : (ℕ → Record) → Bool → ℕ → Reason
reason_of H held tick = cond held (record { tick = tick; reading = H (tick - 1) }) no_reason

module _ (card : Card) (H : ℕ → Record) (cause : Cause) where
  -- after so many ticks
  abbrev pub held_after : ℕ → Bool
  held_after n = among cause (held_in (after card H n).state.causes)

  -- a tick makes the cause held: it is held after that tick, and was not just before
  abbrev pub made_held : ℕ → Bool
  made_held tick = held_after tick && not (held_after (tick - 1))

  -- the present holding, that after n ticks, began at the last such tick
  unfoldable pub began : ℕ → ℕ
  began n = last_of made_held n

  abbrev pub reason_after : ℕ → Reason
  reason_after n = reason_of H (held_after n) (began n)

-- a refusal: its number and zeros
abbrev pub refused : ℕ → Reasons
refused number = record { refusal = number; nz1 = no_reason; nz2 = no_reason; nz3 = no_reason; nz4 = no_reason; nz5 = no_reason }

-- 23, 14; `same_desk?` decides whether two desks are equal, with a proof either way
unfoldable pub rebuilt_refusal : Desk → Desk → ℕ
rebuilt_refusal desk rebuilt = cond (not (decide (same_desk? desk rebuilt))) other_desk (cond (eqb desk.state.causes 0) valve_closed 0)

module _ (desk : Desk) (journal : List ℕ) where
  -- the desk that the journal rebuilds
  abbrev pub rebuilt : Desk
  rebuilt = record { card = desk.card; n = desk.n; state = (after desk.card (records journal) desk.n).state }

  -- 5, 6, 9, 23, 14
  unfoldable pub why_refusal : ℕ
  why_refusal =
      first_refusal (desk_refusal desk (length journal))
      (cond (not (all_in_range journal desk.n)) bad_record (rebuilt_refusal desk rebuilt))

  abbrev pub reason_for : Cause → Reason
  reason_for cause = reason_after desk.card (records journal) cause desk.n

  abbrev pub all_reasons : Reasons
  all_reasons = record { refusal = 0; nz1 = reason_for NZ1; nz2 = reason_for NZ2; nz3 = reason_for NZ3; nz4 = reason_for NZ4; nz5 = reason_for NZ5 }

  unfoldable pub why_outcome : Reasons
  why_outcome = cond (eqb why_refusal 0) all_reasons (refused why_refusal)
