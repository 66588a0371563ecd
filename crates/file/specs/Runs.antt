-- The runs in turn: the ticks up to each, the number of the first refusal, and the record of each tick.
use Rattle.std.specs.Prelude.{ℕ, zero, suc, ◌+◌, not, ◌||◌, cond, List, leb, ltb, eqb}
use Rattle.record.specs.declared.Record.{Record}
use Rattle.record.specs.Record.{record_in_range, no_record}
use Rattle.record.specs.Times.{most_ticks}
use Rattle.refusal.specs.Refusal.{bad_ticks, bad_record, first_refusal}
use Rattle.file.specs.File.{run_ticks, run_record}

-- the ticks of the first j runs
unfoldable pub ticks_to : List ℕ → ℕ → ℕ
ticks_to file zero = 0
ticks_to file (suc j) = ticks_to file j + run_ticks file j

-- after so many ticks: 11 a run of 0 ticks, or sum over 7,200, then 9 a record out of range
unfoldable pub run_fault : ℕ → ℕ → Record → ℕ
run_fault before ticks reading =
    cond (eqb ticks 0 || ltb most_ticks (before + ticks)) bad_ticks (cond (not (record_in_range reading)) bad_record 0)

-- each run in turn
unfoldable pub runs_refusal : List ℕ → ℕ → ℕ
runs_refusal file zero = 0
runs_refusal file (suc j) =
    first_refusal (runs_refusal file j) (run_fault (ticks_to file j) (run_ticks file j) (run_record file j))

-- the record of the tick at place i, from 0: that of the last of the first j runs that begins at or before it
unfoldable pub tick_record : List ℕ → ℕ → ℕ → Record
tick_record file zero i = no_record
tick_record file (suc j) i = cond (leb (ticks_to file j) i) (run_record file j) (tick_record file j i)
