-- What is printed of two tables: a message's text or the number of its refusal, and all messages side by side.
use Rattle.std.specs.Prelude.{ℕ, ◌-◌, zero, suc, List, [], ◌∷◌, ◌++◌, cond, eqb, ltb, max, length, codes, decimal}
use Rattle.std.proofs.Math.ListN.{replicate}
use Rattle.utf8.specs.Characters.{characters}
use Rattle.texts.specs.Text.{chosen, text_place, text_part}

abbrev pub line_end : List ℕ
line_end = 10 ∷ []

abbrev pub spaces : ℕ → List ℕ
spaces n = replicate n 32

unfoldable pub refused : ℕ → List ℕ → List ℕ
refused refusal end = codes "refused " ++ (decimal refusal ++ end)

-- a message's number in two columns, and two spaces
unfoldable pub number_column : ℕ → List ℕ
number_column number = cond (ltb number 10) (spaces 1) [] ++ (decimal number ++ spaces 2)

-- what fills so wide a column behind the text on the left, two spaces, and the text on the right
unfoldable pub beside : List ℕ → ℕ → List ℕ → List ℕ
beside left width right = spaces (width - characters left) ++ (spaces 2 ++ right)

-- a line with a message's number and a text of each table, the first's in so wide a column
unfoldable pub side_by_side : ℕ → List ℕ → ℕ → List ℕ → List ℕ
side_by_side number left width right =
    number_column number ++ (left ++ (cond (eqb (length right) 0) [] (beside left width right) ++ line_end))

module _ (first second : List ℕ) where
  abbrev pub refusal_of : ℕ → ℕ → ℕ
  refusal_of language number = (text_place (chosen language first second) language number).refusal

  abbrev pub text_of : ℕ → ℕ → List ℕ
  text_of language number = text_part (chosen language first second) language number

  unfoldable pub one : ℕ → ℕ → List ℕ
  one language number = cond (eqb (refusal_of language number) 0) (text_of language number) (refused (refusal_of language number) [])

  -- how many characters the longest of the first texts of the first table has
  unfoldable pub widest : ℕ → ℕ
  widest zero = 0
  widest (suc number) = max (widest number) (characters (text_of 1 number))

  -- a line with a message of both tables
  unfoldable pub shown : ℕ → ℕ → List ℕ
  shown width number = side_by_side number (text_of 1 number) width (text_of 2 number)

  -- none where neither table has it
  unfoldable pub row : ℕ → ℕ → List ℕ
  row width number =
      cond (eqb (refusal_of 1 number) 0) (shown width number)
      (cond (eqb (refusal_of 2 number) 0) (shown width number) [])

  -- the lines of the first messages
  unfoldable pub rows : ℕ → ℕ → List ℕ
  rows width zero = []
  rows width (suc number) = rows width number ++ row width number

  -- a good table has a message 0
  unfoldable pub all_refusal : ℕ
  all_refusal = cond (eqb (refusal_of 1 0) 0) (refusal_of 2 0) (refusal_of 1 0)

  unfoldable pub all : List ℕ
  all = cond (eqb all_refusal 0) (rows (widest 64) 64) (refused all_refusal line_end)
