-- What the reader, the run of an exercise and the host's call give, on literal files: every number of refusal, which one where several apply,
-- every limit of a file at its bound and one beyond, and every byte of the buffer.
use Rattle.std.specs.Prelude.{ℕ, zero, suc, ◌+◌, List, [], ◌∷◌, ◌++◌, set, take, length, replicate}
use Rattle.file.specs.declared.Counts.{Counts}
use Rattle.file.specs.Read.{head_refusal, read_outcome}
use Rattle.exercise.specs.Run.{exercise_outcome, exercise_buffer}
use Rattle.foldharbor_exercise.specs.Exercise.{host_number}
use Rattle.examples.specs.Rows.{Row}

-- ---- parts of a file, byte by byte

-- card K: 1600, 1400, 1400, 400, 1000, 30, 0, 18, 200, 250
abbrev card : List ℕ
card = 64 ∷ 6 ∷ 120 ∷ 5 ∷ 120 ∷ 5 ∷ 144 ∷ 1 ∷ 232 ∷ 3 ∷ 30 ∷ 0 ∷ 0 ∷ 0 ∷ 18 ∷ 0 ∷ 200 ∷ 0 ∷ 250 ∷ 0 ∷ []

-- so many cards
abbrev cards : ℕ → List ℕ
cards zero = []
cards (suc m) = card ++ cards m

-- runs of 1 and of 2 ticks: the train stands in PRE under Clear; at 1430, backward, remote stop on
abbrev standing : List ℕ
standing = 1 ∷ 0 ∷ 0 ∷ 0 ∷ 4 ∷ 2 ∷ 1 ∷ 72 ∷ 2 ∷ 0 ∷ []

abbrev stopped : List ℕ
stopped = 2 ∷ 0 ∷ 150 ∷ 5 ∷ 4 ∷ 2 ∷ 1 ∷ 80 ∷ 2 ∷ 2 ∷ []

-- a card and two runs: 1 and 2, then 10, 30 and 50 as offsets and total
abbrev header : List ℕ
header = 1 ∷ 0 ∷ 2 ∷ 0 ∷ 10 ∷ 0 ∷ 30 ∷ 0 ∷ 50 ∷ 0 ∷ []

abbrev good : List ℕ
good = header ++ card ++ standing ++ stopped

-- its answers: P 1400 and T 1600 in each tick; in the last two NZ4 alone is held: 8, the lowest 4, 1 held
abbrev answers : List ℕ
answers =
    (120 ∷ 5 ∷ 64 ∷ 6 ∷ 0 ∷ 0 ∷ 0 ∷ 0 ∷ [])
    ++ (120 ∷ 5 ∷ 64 ∷ 6 ∷ 0 ∷ 8 ∷ 4 ∷ 1 ∷ [])
    ++ (120 ∷ 5 ∷ 64 ∷ 6 ∷ 0 ∷ 8 ∷ 4 ∷ 1 ∷ [])

-- a card and no run
abbrev one_card : List ℕ
one_card = 1 ∷ 0 ∷ 0 ∷ 0 ∷ 10 ∷ 0 ∷ 30 ∷ 0 ∷ 30 ∷ 0 ∷ card

-- ---- what is wrong with a file, by one byte of it

-- 10: the runs begin at 31
abbrev bad_offset : List ℕ → List ℕ
bad_offset file = set file 6 31

-- 4: a deceleration of 4
abbrev bad_card : List ℕ → List ℕ
bad_card file = set file 24 4

-- 11: the first run, the second, of 0 ticks
abbrev no_ticks : List ℕ → List ℕ
no_ticks file = set file 30 0

abbrev no_ticks_later : List ℕ → List ℕ
no_ticks_later file = set file 40 0

-- 9: the code 5 in the first run, in the second
abbrev bad_record : List ℕ → List ℕ
bad_record file = set file 34 5

abbrev bad_record_later : List ℕ → List ℕ
bad_record_later file = set file 44 5

-- the two runs have so many ticks, of two bytes each
abbrev ticks : ℕ → ℕ → ℕ → ℕ → List ℕ
ticks low high lower higher = set (set (set (set good 30 low) 31 high) 40 lower) 41 higher

-- ---- rows

-- the number, and the counts of cards, runs and ticks
abbrev counted : Counts → List ℕ
counted counts = counts.refusal ∷ counts.cards ∷ counts.runs ∷ counts.ticks ∷ []

abbrev reads : List ℕ → ℕ → ℕ → ℕ → Row
reads file cards runs ticks = record { what = counted (read_outcome file); is = 0 ∷ cards ∷ runs ∷ ticks ∷ [] }

-- refused: the number, and counts of zeros
abbrev read_refused : List ℕ → ℕ → Row
read_refused file number = record { what = counted (read_outcome file); is = number ∷ 0 ∷ 0 ∷ 0 ∷ [] }

-- the number of a file's header and cards, whose runs nobody looks at
abbrev head : List ℕ → ℕ → Row
head file number = record { what = head_refusal file ∷ []; is = number ∷ [] }

-- the number, the ticks, what the host gets of both, and the buffer
abbrev told : List ℕ → ℕ → List ℕ → List ℕ
told file card buffer =
    (exercise_outcome file card (length buffer)).refusal
    ∷ (exercise_outcome file card (length buffer)).ticks
    ∷ host_number (exercise_outcome file card (length buffer))
    ∷ exercise_buffer file card buffer

-- a buffer of so many bytes
abbrev bytes : ℕ → List ℕ
bytes m = replicate m 170

abbrev runs : List ℕ → ℕ → ℕ → ℕ → List ℕ → Row
runs file card room ticks left = record { what = told file card (bytes room); is = 0 ∷ ticks ∷ ticks ∷ left }

-- refused: its number, no ticks, 10,000 and the number, and every byte as it was
abbrev run_refused : List ℕ → ℕ → ℕ → ℕ → Row
run_refused file card room number = record {
  what = told file card (bytes room);
  is = number ∷ 0 ∷ (10000 + number) ∷ bytes room;
}

-- ---- the table
unfoldable pub files : List Row
files =
    reads good 1 2 3
    -- 10: shorter than its header
    ∷ read_refused [] 10
    ∷ read_refused (take 9 good) 10
    -- 1 to 8 cards
    ∷ read_refused (0 ∷ 0 ∷ 0 ∷ 0 ∷ 10 ∷ 0 ∷ 10 ∷ 0 ∷ 10 ∷ 0 ∷ []) 10
    ∷ reads one_card 1 0 0
    ∷ reads (8 ∷ 0 ∷ 0 ∷ 0 ∷ 10 ∷ 0 ∷ 170 ∷ 0 ∷ 170 ∷ 0 ∷ cards 8) 8 0 0
    ∷ read_refused (9 ∷ 0 ∷ 0 ∷ 0 ∷ 10 ∷ 0 ∷ 190 ∷ 0 ∷ 190 ∷ 0 ∷ cards 9) 10
    -- 0 to 6,000 runs, with a total of 60,030 and of 60,040
    ∷ head (1 ∷ 0 ∷ 112 ∷ 23 ∷ 10 ∷ 0 ∷ 30 ∷ 0 ∷ 126 ∷ 234 ∷ card ++ bytes 60000) 0
    ∷ head (1 ∷ 0 ∷ 113 ∷ 23 ∷ 10 ∷ 0 ∷ 30 ∷ 0 ∷ 136 ∷ 234 ∷ card ++ bytes 60010) 10
    -- an offset, the total or the real length other than the counts give
    ∷ read_refused (set good 4 11) 10
    ∷ read_refused (bad_offset good) 10
    ∷ read_refused (set good 8 51) 10
    ∷ read_refused (take 49 good) 10
    ∷ read_refused (good ++ (0 ∷ [])) 10
    -- 4: any card
    ∷ read_refused (bad_card good) 4
    ∷ read_refused (2 ∷ 0 ∷ 0 ∷ 0 ∷ 10 ∷ 0 ∷ 50 ∷ 0 ∷ 50 ∷ 0 ∷ card ++ set card 14 4) 4
    -- 11: a run of 0 ticks; a sum of 7,200, and of one more, over two runs and in one
    ∷ read_refused (no_ticks good) 11
    ∷ read_refused (no_ticks_later good) 11
    ∷ reads (ticks 31 28 1 0) 1 2 7200
    ∷ read_refused (ticks 32 28 1 0) 11
    ∷ read_refused (ticks 33 28 1 0) 11
    -- 9
    ∷ read_refused (bad_record good) 9
    ∷ read_refused (bad_record_later good) 9
    -- the first of several: 10, 4, then each run in turn 11 and 9
    ∷ read_refused (bad_offset (bad_card good)) 10
    ∷ read_refused (bad_offset (no_ticks good)) 10
    ∷ read_refused (bad_offset (bad_record good)) 10
    ∷ read_refused (bad_card (no_ticks good)) 4
    ∷ read_refused (bad_card (bad_record good)) 4
    ∷ read_refused (no_ticks (bad_record good)) 11
    ∷ read_refused (no_ticks (bad_record_later good)) 11
    ∷ read_refused (bad_record (no_ticks_later good)) 9
    -- the exercise: eight bytes a tick, later bytes as they were; without a run nothing is written
    ∷ runs good 1 24 3 answers
    ∷ runs good 1 26 3 (answers ++ bytes 2)
    ∷ runs one_card 1 0 0 []
    -- each number by itself: 10, 4, 13 (cards count from 1), 11, 9, 12
    ∷ run_refused (bad_offset good) 1 24 10
    ∷ run_refused (bad_card good) 1 24 4
    ∷ run_refused good 0 24 13
    ∷ run_refused good 2 24 13
    ∷ run_refused (no_ticks good) 1 24 11
    ∷ run_refused (bad_record good) 1 24 9
    ∷ run_refused good 1 23 12
    -- the first of two that apply
    ∷ run_refused (bad_offset (bad_card good)) 1 24 10
    ∷ run_refused (bad_card good) 2 24 4
    ∷ run_refused (no_ticks good) 2 24 13
    ∷ run_refused (no_ticks (bad_record good)) 1 24 11
    ∷ run_refused (bad_record good) 1 23 9
    -- and of two that stand apart, and of all
    ∷ run_refused (bad_offset good) 2 24 10
    ∷ run_refused (bad_offset good) 1 0 10
    ∷ run_refused (bad_card (bad_record good)) 1 24 4
    ∷ run_refused (bad_card good) 1 0 4
    ∷ run_refused (bad_record good) 2 24 13
    ∷ run_refused good 2 0 13
    ∷ run_refused (no_ticks good) 1 0 11
    ∷ run_refused (bad_record (no_ticks_later good)) 1 0 9
    ∷ run_refused (bad_offset (bad_card (no_ticks (bad_record good)))) 2 0 10
    ∷ []
