-- The lines of a text: each ends with a line end, which the last may lack.
use Rattle.std.specs.Prelude.{ℕ, cond, eqb}
use mathlib.Core.List.{List, [], ◌∷◌, ◌++◌, flat_map}

-- LF
abbrev pub line_end : ℕ
line_end = 10

-- the lines, with a byte put in front of the first
unfoldable pub onto : ℕ → List (List ℕ) → List (List ℕ)
onto byte [] = (byte ∷ []) ∷ []
onto byte (line ∷ lines) = (byte ∷ line) ∷ lines

unfoldable pub lines : List ℕ → List (List ℕ)
lines [] = []
lines (byte ∷ text) = cond (eqb byte line_end) ([] ∷ lines text) (onto byte (lines text))

-- the first line, up to its end
unfoldable pub first_line : List ℕ → List ℕ
first_line [] = []
first_line (byte ∷ text) = cond (eqb byte line_end) [] (byte ∷ first_line text)

-- the text in which each message is a line; that its lines are these, where no message has a line end in it, is `lines_text` in proofs/Lines.antt
unfoldable pub text_of : List (List ℕ) → List ℕ
text_of messages = flat_map (λ message. message ++ (line_end ∷ [])) messages
