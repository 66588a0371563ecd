-- What the run of an exercise returns, and what it leaves in the buffer. A refusal number of 0 is none.
use Rattle.std.specs.Prelude.{ℕ, ◌-◌, ◌*◌, ◌&&◌, cond, List, leb, ltb, eqb, length}
use Rattle.layout.specs.Layout.{written}
use Rattle.refusal.specs.Refusal.{short_buffer, no_such_card, first_refusal}
use Rattle.file.specs.declared.Total.{Total}
use Rattle.file.specs.File.{card_count, run_count, card_in}
use Rattle.file.specs.Runs.{runs_refusal}
use Rattle.file.specs.Read.{tick_count, drive, head_refusal}
use Rattle.rules.specs.Answer.{answer_width}
use Rattle.exercise.specs.Answers.{answers}

-- cards count from 1
abbrev pub number_refusal : List ℕ → ℕ → ℕ
number_refusal file card = cond (leb 1 card && leb card (card_count file)) 0 no_such_card

-- `room` is the buffer's length
module _ (file : List ℕ) (card room : ℕ) where
  -- 10, 4, 13 no such card, the runs' 11 and 9, 12 buffer below 8 bytes a tick
  unfoldable pub exercise_refusal : ℕ
  exercise_refusal =
      first_refusal (head_refusal file)
      (first_refusal (number_refusal file card)
      (first_refusal (runs_refusal file (run_count file))
      (cond (ltb room (answer_width * tick_count file)) short_buffer 0)))

  unfoldable pub exercise_outcome : Total
  exercise_outcome =
      cond (eqb exercise_refusal 0) (record { refusal = 0; ticks = tick_count file }) (record { refusal = exercise_refusal; ticks = 0 })

-- eight bytes a tick from the start, later bytes as they were; nothing changed on refusal
unfoldable pub exercise_buffer : List ℕ → ℕ → List ℕ → List ℕ
exercise_buffer file card buffer =
    cond (eqb (exercise_refusal file card (length buffer)) 0)
    (written buffer 0 (answers (card_in file (card - 1)) (drive file) (tick_count file)))
    buffer
