-- What each call on a desk gives, on literal desks, samples and journals: every number of refusal, which one where several apply,
-- and what is written. A row looks at the number, the whole desk, the whole answer and, of a tick, every byte of the journal; of why at every reason.
use Rattle.std.specs.Prelude.{ℕ, List, [], ◌∷◌, ◌++◌, map, set, take, replicate}
use Rattle.record.specs.declared.Sample.{Sample}
use Rattle.desk.specs.declared.Outcome.{Outcome}
use Rattle.journal.specs.Journal.{capacity}
use Rattle.desk.specs.Calls.{open_outcome, tick_refusal_of, tick_outcome, tick_journal, back_outcome, restart_outcome}
use Rattle.why.specs.Why.{why_outcome}
use Rattle.examples.specs.Literals.{card_of, desk_of, desk_k, sample_of, desk_numbers, answer_numbers, reason_numbers}
use Rattle.examples.specs.Rows.{Row}

-- ---- desks, by their 28 numbers

-- of card K after n ticks: mode 1, all else 0, as on a fresh one
abbrev good : ℕ → List ℕ
good n = desk_k (n ∷ 1 ∷ replicate 16 0)

-- every other number than on a fresh one
abbrev busy : ℕ → List ℕ
busy n = desk_k (n ∷ 3 ∷ 5 ∷ 1 ∷ 2 ∷ 50 ∷ 4 ∷ 2400 ∷ 4000 ∷ 1300 ∷ 1 ∷ 30 ∷ 1 ∷ 2 ∷ 500 ∷ 3000 ∷ 900 ∷ 21 ∷ [])

-- the same, with causes 32; with an ordinary cycle of 149 on its card
abbrev bad : ℕ → List ℕ
bad n = set (busy n) 27 32

abbrev bad_card : ℕ → List ℕ
bad_card n = set (busy n) 8 149

-- every field 0, card and mode included
abbrev zeros : List ℕ
zeros = replicate 28 0

-- in PRE under Warning: a curve from 1600 at E 200,000, a one-time prompt of kind 1, q 150, d 100, h 50, every cause held; and a tick later
abbrev underway : List ℕ
underway = desk_k (0 ∷ 2 ∷ 1 ∷ 2 ∷ 0 ∷ 0 ∷ 0 ∷ 1600 ∷ 200000 ∷ 0 ∷ 0 ∷ 10 ∷ 1 ∷ 1 ∷ 150 ∷ 100 ∷ 50 ∷ 31 ∷ [])

abbrev underway_next : List ℕ
underway_next = desk_k (1 ∷ 2 ∷ 2 ∷ 2 ∷ 0 ∷ 0 ∷ 0 ∷ 1600 ∷ 200360 ∷ 0 ∷ 0 ∷ 11 ∷ 1 ∷ 1 ∷ 151 ∷ 0 ∷ 0 ∷ 31 ∷ [])

-- P by the curve, T, marks of a curve and a prompt with its kind, causes, the lowest and how many
abbrev underway_answer : List ℕ
underway_answer = 1355 ∷ 1200 ∷ 26 ∷ 31 ∷ 1 ∷ 5 ∷ []

-- ---- samples: speed, pressure, code, flags, sense; mode PRE and lever forward

abbrev sample : ℕ → ℕ → ℕ → ℕ → ℕ → Sample
sample speed pressure code flags sense = sample_of speed pressure code 2 1 flags sense

-- 10 m/s and a speed that is no number; 5 bar and -1 bar; with the code
abbrev cab : ℕ → Sample
cab code = sample 0x41200000 0x40a00000 code 64 1

abbrev no_speed : ℕ → Sample
no_speed code = sample 0x7fc00000 0x40a00000 code 64 1

abbrev no_pressure : ℕ → Sample
no_pressure code = sample 0x41200000 0xbf800000 code 64 1

abbrev neither : ℕ → Sample
neither code = sample 0x7fc00000 0xbf800000 code 64 1

-- ---- journals: so many bytes that nobody looks at; three records, then two such bytes

abbrev bytes : ℕ → List ℕ
bytes m = replicate m 170

-- v 0, Clear, PRE, forward, cab on and direct brake, band 2
abbrev first : List ℕ
first = 0 ∷ 0 ∷ 4 ∷ 2 ∷ 1 ∷ 72 ∷ 2 ∷ 0 ∷ []

-- v 360, no brake, forward
abbrev second : List ℕ
second = 104 ∷ 1 ∷ 4 ∷ 2 ∷ 1 ∷ 64 ∷ 2 ∷ 1 ∷ []

-- v 360, PLUS on, backward
abbrev third : List ℕ
third = 104 ∷ 1 ∷ 4 ∷ 2 ∷ 1 ∷ 66 ∷ 2 ∷ 2 ∷ []

-- the desk after each of them: in PRE under Clear; then ordinary vigilance begins; then PLUS is on, q is 1 and d is 360
abbrev after_first : List ℕ
after_first = desk_k (1 ∷ 2 ∷ 0 ∷ 4 ∷ replicate 14 0)

abbrev after_second : List ℕ
after_second = desk_k (2 ∷ 2 ∷ 0 ∷ 4 ∷ 0 ∷ 0 ∷ 0 ∷ 0 ∷ 0 ∷ 0 ∷ 0 ∷ 0 ∷ 0 ∷ 1 ∷ 0 ∷ 0 ∷ 0 ∷ 0 ∷ [])

abbrev after_third : List ℕ
after_third = desk_k (3 ∷ 2 ∷ 2 ∷ 4 ∷ 0 ∷ 0 ∷ 0 ∷ 0 ∷ 0 ∷ 0 ∷ 0 ∷ 0 ∷ 0 ∷ 1 ∷ 1 ∷ 360 ∷ 0 ∷ 0 ∷ [])

abbrev three : List ℕ
three = first ++ second ++ third ++ bytes 2

-- its last byte but two is no sense of motion: the third record is out of range. And the second, by its code
abbrev third_bad : List ℕ
third_bad = set three 23 3

abbrev second_bad : List ℕ
second_bad = set three 10 5

-- v 0 with remote stop; then off, with a vigilance press; v 1431 with remote stop
abbrev remote : List ℕ
remote = 0 ∷ 0 ∷ 4 ∷ 2 ∷ 1 ∷ 88 ∷ 2 ∷ 0 ∷ []

abbrev press : List ℕ
press = 0 ∷ 0 ∷ 4 ∷ 2 ∷ 1 ∷ 73 ∷ 2 ∷ 0 ∷ []

abbrev fast : List ℕ
fast = 151 ∷ 5 ∷ 4 ∷ 2 ∷ 1 ∷ 80 ∷ 2 ∷ 1 ∷ []

-- NZ4 is held, let go, held again, and then NZ2 beside it
abbrev braked : List ℕ
braked = first ++ remote ++ press ++ remote ++ fast

abbrev after_remote : List ℕ
after_remote = desk_k (2 ∷ 2 ∷ 0 ∷ 4 ∷ replicate 13 0 ++ (8 ∷ []))

abbrev after_fast : List ℕ
after_fast = desk_k (5 ∷ 2 ∷ 0 ∷ 4 ∷ replicate 9 0 ++ (1 ∷ 0 ∷ 0 ∷ 0 ∷ 10 ∷ []))

-- ---- rows

abbrev numbers : Outcome → List ℕ
numbers outcome = outcome.refusal ∷ desk_numbers outcome.desk ++ answer_numbers outcome.answer

-- the number, the desk and the answer that a call gives
abbrev gives : Outcome → ℕ → List ℕ → List ℕ → Row
gives outcome number desk answer = record { what = numbers outcome; is = number ∷ desk ++ answer }

-- an answer of zeros
abbrev silence : List ℕ
silence = replicate 6 0

-- what the sample `cab` is answered in POS, and the records in PRE: P, T, no mark, no cause
abbrev in_pos : List ℕ
in_pos = 400 ∷ replicate 5 0

abbrev in_pre : List ℕ
in_pre = 1400 ∷ 1600 ∷ replicate 4 0

abbrev opens : List ℕ → ℕ → List ℕ → Row
opens card number desk = gives (open_outcome (card_of card)) number desk silence

-- a tick gives a number, a desk, an answer and a journal
abbrev ticks : List ℕ → Sample → List ℕ → ℕ → List ℕ → List ℕ → List ℕ → Row
ticks desk x journal number next answer left = record {
  what = numbers (tick_outcome (desk_of desk) x journal) ++ tick_journal (desk_of desk) x journal;
  is = (number ∷ next ++ answer) ++ left;
}

-- refused: its number, the desk handed in, zeros, and every byte as it was
abbrev tick_refused : List ℕ → Sample → List ℕ → ℕ → Row
tick_refused desk x journal number = ticks desk x journal number desk silence journal

-- the number alone, after n ticks, of a good sample and a journal by its length
abbrev tick_number : ℕ → ℕ → ℕ → Row
tick_number n bytes number = record { what = tick_refusal_of (desk_of (good n)) 0 bytes ∷ []; is = number ∷ [] }

abbrev goes_back : List ℕ → ℕ → List ℕ → ℕ → List ℕ → List ℕ → Row
goes_back desk back journal number next answer = gives (back_outcome (desk_of desk) back journal) number next answer

abbrev back_refused : List ℕ → ℕ → List ℕ → ℕ → Row
back_refused desk back journal number = goes_back desk back journal number desk silence

abbrev restarts : List ℕ → ℕ → List ℕ → Row
restarts desk number next = gives (restart_outcome (desk_of desk)) number next silence

-- why: a number, and of each cause its tick and the fields of that tick's record
abbrev tells : List ℕ → List ℕ → ℕ → List ℕ → Row
tells desk journal number reasons = record { what = reason_numbers (why_outcome (desk_of desk) journal); is = number ∷ reasons }

-- nothing of a cause that is not held
abbrev free : List ℕ
free = replicate 8 0

abbrev why_refused : List ℕ → List ℕ → ℕ → Row
why_refused desk journal number = tells desk journal number (free ++ free ++ free ++ free ++ free)

-- ---- the table
unfoldable pub calls : List Row
calls =
    -- capacity is the lesser of 7,200 and the journal's length / 8, whole
    record {
      what = map capacity (0 ∷ 7 ∷ 8 ∷ 15 ∷ 16 ∷ 57599 ∷ 57600 ∷ 57608 ∷ []);
      is = 0 ∷ 0 ∷ 1 ∷ 1 ∷ 2 ∷ 7199 ∷ 7200 ∷ 7200 ∷ [];
    }
    -- opening: 4, with a desk of zeros; else the fresh desk of the card
    ∷ opens (take 10 (bad_card 0)) 4 zeros
    ∷ opens (take 10 (good 0)) 0 (good 0)
    -- tick, each number by itself: 5 by a field and by the card; 6 (which is never without 7); 7; 1; 2; 3
    ∷ tick_refused (bad 2) (cab 4) (bytes 24) 5
    ∷ tick_refused (bad_card 2) (cab 4) (bytes 24) 5
    ∷ tick_refused (busy 2) (cab 4) (bytes 15) 6
    ∷ tick_refused (busy 2) (cab 4) (bytes 16) 7
    ∷ tick_refused (busy 2) (no_speed 4) (bytes 24) 1
    ∷ tick_refused (busy 2) (no_pressure 4) (bytes 24) 2
    ∷ tick_refused (busy 2) (cab 5) (bytes 24) 3
    -- the first of two that apply
    ∷ tick_refused (bad 2) (cab 4) (bytes 15) 5
    ∷ tick_refused (busy 2) (no_speed 4) (bytes 16) 7
    ∷ tick_refused (busy 2) (neither 4) (bytes 24) 1
    ∷ tick_refused (busy 2) (no_pressure 5) (bytes 24) 2
    -- and of two that stand apart, and of all
    ∷ tick_refused (bad 2) (cab 4) (bytes 16) 5
    ∷ tick_refused (bad 2) (no_speed 4) (bytes 24) 5
    ∷ tick_refused (bad 2) (cab 5) (bytes 24) 5
    ∷ tick_refused (busy 2) (no_speed 4) (bytes 15) 6
    ∷ tick_refused (busy 2) (cab 5) (bytes 15) 6
    ∷ tick_refused (busy 2) (no_pressure 4) (bytes 16) 7
    ∷ tick_refused (busy 2) (cab 5) (bytes 16) 7
    ∷ tick_refused (busy 2) (no_speed 5) (bytes 24) 1
    ∷ tick_refused (bad 2) (neither 5) (bytes 15) 5
    -- a desk of zeros is refused by every call
    ∷ tick_refused zeros (cab 4) (bytes 24) 5
    ∷ back_refused zeros 0 (bytes 24) 5
    ∷ restarts zeros 5 zeros
    -- the last place of a journal is taken, and the one behind it not; no journal takes more than 7,200
    ∷ tick_refused (good 0) (cab 4) (bytes 7) 7
    ∷ ticks (good 0) (cab 4) (bytes 8) 0 (good 1) in_pos second
    ∷ tick_number 7199 57599 7
    ∷ tick_number 7199 57600 0
    ∷ tick_number 7200 57599 6
    ∷ tick_number 7200 57600 7
    ∷ tick_number 7200 57608 7
    -- the record goes to bytes 8n to 8n + 7, and no other byte changes
    ∷ ticks (good 1) (cab 4) (third ++ third ++ first ++ bytes 2) 0 (good 2) in_pos (third ++ second ++ first ++ bytes 2)
    -- Warning at 360 with PLUS on: E grows by 360, the prompt and q by one; the train moves and agrees, so d and h become 0
    ∷ ticks underway (sample 0x41200000 0x40a00000 2 66 1) (bytes 8) 0 underway_next underway_answer (104 ∷ 1 ∷ 2 ∷ 2 ∷ 1 ∷ 66 ∷ 2 ∷ 1 ∷ [])
    -- step back, each number by itself
    ∷ back_refused (bad 3) 1 three 5
    ∷ back_refused (bad_card 3) 1 three 5
    ∷ back_refused (busy 3) 1 (take 23 three) 6
    ∷ back_refused (busy 3) 4 three 8
    ∷ back_refused (busy 3) 1 second_bad 9
    -- the first of two that apply; a step back by more than n has no survivors, so 9 never comes beside 8
    ∷ back_refused (bad 3) 1 (take 23 three) 5
    ∷ back_refused (busy 3) 4 (take 23 three) 6
    ∷ back_refused (busy 3) 4 second_bad 8
    ∷ back_refused (bad 3) 4 three 5
    ∷ back_refused (bad 3) 1 second_bad 5
    ∷ back_refused (busy 3) 1 (take 23 second_bad) 6
    -- the desk and the answer of the last survivor; a record that is struck may be out of range
    ∷ goes_back (busy 3) 0 three 0 after_third in_pre
    ∷ goes_back (busy 3) 1 three 0 after_second in_pre
    ∷ goes_back (busy 3) 2 three 0 after_first in_pre
    ∷ goes_back (busy 3) 3 three 0 (good 0) silence
    ∷ back_refused (busy 3) 0 third_bad 9
    ∷ goes_back (busy 3) 2 second_bad 0 after_first in_pre
    -- restart: 5; else the fresh desk of the same card
    ∷ restarts (bad 2) 5 (bad 2)
    ∷ restarts (bad_card 2) 5 (bad_card 2)
    ∷ restarts (busy 2) 0 (good 0)
    -- why, each number by itself: 5 by a field and by the card; 6; 9; 23; 14
    ∷ why_refused (bad 3) three 5
    ∷ why_refused (bad_card 3) three 5
    ∷ why_refused (set after_third 27 1) (take 23 three) 6
    ∷ why_refused after_third third_bad 9
    ∷ why_refused (busy 3) three 23
    ∷ why_refused after_third three 14
    -- the first of two that apply
    ∷ why_refused (bad 3) (take 23 three) 5
    ∷ why_refused after_third (take 23 third_bad) 6
    ∷ why_refused (busy 3) third_bad 9
    ∷ why_refused (good 3) three 23
    -- 23 for n and for each field of the state
    ∷ record {
      what = map (λ field. (why_outcome (desk_of (set after_remote field 1)) braked).refusal)
          (10 ∷ 11 ∷ 12 ∷ 13 ∷ 14 ∷ 15 ∷ 16 ∷ 17 ∷ 18 ∷ 19 ∷ 20 ∷ 21 ∷ 22 ∷ 23 ∷ 24 ∷ 25 ∷ 26 ∷ 27 ∷ []);
      is = replicate 18 23;
    }
    -- the present holding began in the second tick; let go and begun again, in the fourth
    ∷ tells after_remote braked 0 (free ++ free ++ free ++ (2 ∷ 0 ∷ 4 ∷ 2 ∷ 1 ∷ 88 ∷ 2 ∷ 0 ∷ []) ++ free)
    ∷ tells after_fast braked 0
    (free ++ (5 ∷ 1431 ∷ 4 ∷ 2 ∷ 1 ∷ 80 ∷ 2 ∷ 1 ∷ []) ++ free ++ (4 ∷ 0 ∷ 4 ∷ 2 ∷ 1 ∷ 88 ∷ 2 ∷ 0 ∷ []) ++ free)
    ∷ []
