-- What is made of a text: the table of its lines, or the first fault, with the number of the line, from 1.
use Rattle.std.specs.Prelude.{ℕ, ◌+◌, not, cond, List, [], ◌∷◌, ltb, length, Result, Ok, Err}
use Rattle.std.proofs.Math.Bool.{decide}
use Rattle.utf8.proofs.Utf8.{utf8?}
use Rattle.texts.specs.Table.{most_messages, most_bytes, header_width}
use Rattle.lines.specs.Lines.{lines}
use Rattle.lines.specs.Table.{table_of}
use Rattle.lines.specs.declared.FaultKind.{FaultKind}
use Rattle.lines.specs.declared.FaultKind.TheVariants.{NoLine, TooMany, TooLong, NotUtf8}
use Rattle.lines.specs.declared.Fault.{Fault}
use Rattle.lines.specs.declared.Table.{Table}

-- a table of so many messages, so many bytes long
abbrev pub good : ℕ → ℕ → Result Table Fault
good messages bytes = Ok (record { count = messages; length = bytes })

-- none: what is wrong, and in which line
abbrev pub bad : FaultKind → ℕ → Result Table Fault
bad kind line = Err (record { kind = kind; line = line })

-- after so many lines with so many bytes: each line in turn, first its number, then the bytes up to its end, then its own bytes
unfoldable pub made_after : ℕ → ℕ → List (List ℕ) → Result Table Fault
made_after count bytes [] = good count (header_width count + bytes)
made_after count bytes (line ∷ rest) =
    cond (ltb most_messages (count + 1)) (bad TooMany (count + 1))
    (cond (ltb most_bytes (header_width (count + 1) + bytes + length line)) (bad TooLong (count + 1))
    (cond (not (decide (utf8? line))) (bad NotUtf8 (count + 1))
    (made_after (count + 1) (bytes + length line) rest)))

-- no line is the fault of line 1
unfoldable pub made_of : List (List ℕ) → Result Table Fault
made_of [] = bad NoLine 1
made_of (line ∷ rest) = made_after 0 0 (line ∷ rest)

abbrev pub made : List ℕ → Result Table Fault
made text = made_of (lines text)

-- the bytes that are written: the table, or none
unfoldable pub bytes_of : Result Table Fault → List (List ℕ) → List ℕ
bytes_of (Ok table) messages = table_of messages
bytes_of (Err fault) messages = []
