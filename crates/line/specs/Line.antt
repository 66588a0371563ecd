-- The lines that are printed: numbers in decimal, a space between them and a line end after the last.
use Rattle.std.specs.Prelude.{ℕ, ◌+◌, ◌*◌, ◌/◌, ◌%◌, List, [], ◌∷◌, ◌++◌, cond, ltb, eqb}
use Rattle.record.specs.declared.Record.{Record}
use Rattle.desk.specs.declared.Outcome.{Outcome}
use Rattle.why.specs.declared.Reason.{Reason}
use Rattle.why.specs.declared.Reasons.{Reasons}

-- in ASCII
abbrev pub space : ℕ
space = 32

abbrev pub line_end : ℕ
line_end = 10

-- the digit 0; the others follow it
abbrev pub digit_zero : ℕ
digit_zero = 48

-- the digit of x at a weight: where x is below the weight there is none, so that no 0 leads
unfoldable pub digit_at : ℕ → ℕ → List ℕ
digit_at x weight = cond (ltb x weight) [] ((digit_zero + x / weight % 10) ∷ [])

-- the most digits of a number: it is a u16
abbrev pub digits_most : ℕ
digits_most = 5

-- x in decimal
unfoldable pub decimal : ℕ → List ℕ
decimal x = digit_at x 10000 ++ digit_at x 1000 ++ digit_at x 100 ++ digit_at x 10 ++ ((digit_zero + x % 10) ∷ [])

-- the most bytes of a number with the space before it
abbrev pub number_most : ℕ
number_most = 1 + digits_most

-- a space before each number
unfoldable pub spaced : List ℕ → List ℕ
spaced [] = []
spaced (x ∷ xs) = (space ∷ decimal x) ++ spaced xs

unfoldable pub line : ℕ → List ℕ → List ℕ
line first others = decimal first ++ spaced others ++ (line_end ∷ [])

-- "refusal n P T marks causes lowest held"
unfoldable pub line_of : Outcome → List ℕ
line_of outcome =
    line outcome.refusal
    (outcome.desk.n ∷ outcome.answer.permitted ∷ outcome.answer.target
    ∷ outcome.answer.marks ∷ outcome.answer.causes ∷ outcome.answer.lowest ∷ outcome.answer.held ∷ [])

-- "v code mode lever flags band sense"
abbrev pub record_numbers : Record → List ℕ
record_numbers r = r.v ∷ r.code ∷ r.mode ∷ r.lever ∷ r.flags ∷ r.band ∷ r.sense ∷ []

-- of a cause by its number: nothing where it is not held, which is tick 0; else the number, the tick and its record
unfoldable pub reason_numbers : ℕ → Reason → List ℕ
reason_numbers cause reason = cond (eqb reason.tick 0) [] (cause ∷ reason.tick ∷ record_numbers reason.reading)

-- the most bytes of a reason: nine numbers
abbrev pub reason_most : ℕ
reason_most = number_most * 9

-- the refusal, then each held cause
unfoldable pub line_of_reasons : Reasons → List ℕ
line_of_reasons reasons =
    line reasons.refusal
    (reason_numbers 1 reasons.nz1 ++ reason_numbers 2 reasons.nz2 ++ reason_numbers 3 reasons.nz3
    ++ reason_numbers 4 reasons.nz4 ++ reason_numbers 5 reasons.nz5)
