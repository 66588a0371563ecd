-- What one pass over the records finds, in the structs that the code hands on.
use Rattle.std.specs.Prelude.{ℕ, ◌*◌, ◌≤◌, Bool, not, ◌&&◌, cond, List, Result, Ok, Err}
use Rattle.refusal.specs.declared.Refusal.{Refusal}
use Rattle.refusal.specs.declared.Refusal.TheVariants.{BadRecord}
use Rattle.card.specs.declared.Card.{Card}
use Rattle.record.specs.declared.Record.{Record}
use Rattle.record.specs.Record.{record_width}
use Rattle.causes.specs.Causes.{Causes}
use Rattle.causes.specs.Held.{held_in}
use Rattle.causes.specs.Cause.{Cause, NZ1, NZ2, NZ3, NZ4, NZ5}
use Rattle.rules.specs.After.{after}
use Rattle.journal.specs.Journal.{records, all_in_range}
use Rattle.desk.specs.declared.Desk.{Desk}
use Rattle.why.specs.Starts.{Starts}
use Rattle.why.specs.declared.Told.{Told}
use Rattle.why.specs.declared.Reasons.{Reasons}
use Rattle.why.specs.Why.{began, reason_of, rebuilt_refusal}

abbrev pub no_starts : Starts
no_starts = record { nz1 = 0; nz2 = 0; nz3 = 0; nz4 = 0; nz5 = 0 }

abbrev pub start_at : ℕ → Bool → Bool → ℕ → ℕ
start_at tick was is start = cond (is && not was) tick start

unfoldable pub starts_at : ℕ → ℕ → ℕ → Starts → Starts
starts_at tick was is starts =
    record {
      nz1 = start_at tick (held_in was).nz1 (held_in is).nz1 starts.nz1;
      nz2 = start_at tick (held_in was).nz2 (held_in is).nz2 starts.nz2;
      nz3 = start_at tick (held_in was).nz3 (held_in is).nz3 starts.nz3;
      nz4 = start_at tick (held_in was).nz4 (held_in is).nz4 starts.nz4;
      nz5 = start_at tick (held_in was).nz5 (held_in is).nz5 starts.nz5;
    }

module _ (card : Card) (journal : List ℕ) where
  unfoldable pub starts_after : ℕ → Starts
  starts_after n =
      record {
        nz1 = began card (records journal) NZ1 n;
        nz2 = began card (records journal) NZ2 n;
        nz3 = began card (records journal) NZ3 n;
        nz4 = began card (records journal) NZ4 n;
        nz5 = began card (records journal) NZ5 n;
      }

  abbrev pub all_told : ℕ → Told
  all_told n = record { state = (after card (records journal) n).state; starts = starts_after n }

  -- 9
  unfoldable pub retold : ℕ → Result Told Refusal
  retold n = cond (all_in_range journal n) (Ok (all_told n)) (Err BadRecord)

-- 23, 14
unfoldable pub retold_refusal : Desk → Told → ℕ
retold_refusal desk told = rebuilt_refusal desk (record { card = desk.card; n = desk.n; state = told.state })

unfoldable pub start_of : Cause → Starts → ℕ
start_of NZ1 starts = starts.nz1
start_of NZ2 starts = starts.nz2
start_of NZ3 starts = starts.nz3
start_of NZ4 starts = starts.nz4
start_of NZ5 starts = starts.nz5

-- the tick has a record in a journal of so many bytes
pub record StartFits (tick bytes : ℕ) : Type 0 where
  pub first : 1 ≤ tick
  pub last : record_width * tick ≤ bytes

unfoldable pub reasons_of : (ℕ → Record) → Causes → Starts → Reasons
reasons_of H held starts =
    record {
      refusal = 0;
      nz1 = reason_of H held.nz1 starts.nz1;
      nz2 = reason_of H held.nz2 starts.nz2;
      nz3 = reason_of H held.nz3 starts.nz3;
      nz4 = reason_of H held.nz4 starts.nz4;
      nz5 = reason_of H held.nz5 starts.nz5;
    }
