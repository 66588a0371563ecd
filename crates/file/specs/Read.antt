-- What the reader returns. A refusal number of 0 is none.
use Rattle.std.specs.Prelude.{ℕ, not, cond, List, eqb, Result}
use Rattle.refusal.specs.Refusal.{bad_card, bad_file, first_refusal}
use Rattle.refusal.specs.Number.{number_of, value_of}
use Rattle.refusal.specs.declared.Refusal.{Refusal}
use Rattle.record.specs.declared.Record.{Record}
use Rattle.file.specs.declared.Counts.{Counts}
use Rattle.file.specs.declared.Total.{Total}
use Rattle.file.specs.File.{header_good, card_count, run_count, cards_in_range}
use Rattle.file.specs.Runs.{ticks_to, runs_refusal, tick_record}

-- ticks or a refusal, as a total
unfoldable pub total_of : Result ℕ Refusal → Total
total_of ran = record { refusal = number_of ran; ticks = value_of 0 ran }

module _ (file : List ℕ) where
  -- of all the runs
  abbrev pub tick_count : ℕ
  tick_count = ticks_to file (run_count file)

  abbrev pub drive : ℕ → Record
  drive = tick_record file (run_count file)

  -- the runs, and their ticks unless one is refused
  unfoldable pub runs_read : Total
  runs_read =
      cond (eqb (runs_refusal file (run_count file)) 0) (record { refusal = 0; ticks = tick_count })
      (record { refusal = runs_refusal file (run_count file); ticks = 0 })

  -- before the runs: 10, then 4 of any card
  unfoldable pub head_refusal : ℕ
  head_refusal = cond (not (header_good file)) bad_file (cond (not (cards_in_range file (card_count file))) bad_card 0)

  -- the reader: 10, 4, the runs' 11 and 9
  unfoldable pub read_refusal : ℕ
  read_refusal = first_refusal head_refusal (runs_refusal file (run_count file))

  -- the counts, zeros if refused
  unfoldable pub read_outcome : Counts
  read_outcome =
      cond (eqb read_refusal 0) (record { refusal = 0; cards = card_count file; runs = run_count file; ticks = tick_count })
      (record { refusal = read_refusal; cards = 0; runs = 0; ticks = 0 })
