-- What making a table comes to: of every list of 1 to 64 messages that fit, a line each, a good table is made and its message i is the list's, to the byte.
-- Of no other lines is one made: the first line at fault is told. Proved of what `make` returns and writes, in proofs/Making.antt.
use Rattle.std.specs.Prelude.{ℕ, ◌+◌, ◌≤◌, ◌<◌, ◌≡◌, true, length, get_or, take, Result}
use mathlib.Core.List.{List, [], flatten}
use Rattle.utf8.specs.Utf8.{Utf8}
use Rattle.texts.specs.Table.{most_messages, most_bytes, header_width, count, message, table_good}
use Rattle.lines.specs.Lines.{line_end}
use Rattle.lines.specs.Made.{good}
use Rattle.lines.specs.declared.FaultKind.{FaultKind}
use Rattle.lines.specs.declared.FaultKind.TheVariants.{NoLine, TooMany, TooLong, NotUtf8}
use Rattle.lines.specs.declared.Fault.{Fault}
use Rattle.lines.specs.declared.Table.{Table}

module _ (messages : List (List ℕ)) where
  -- a table has its header and every message's bytes
  abbrev pub table_length : ℕ
  table_length = header_width (length messages) + length (flatten messages)

  -- 1 to 64 messages, each UTF-8, and their table no longer than a u16 offset can say
  pub record Fitting : Type 0 where
    pub some : 1 ≤ length messages
    pub most : length messages ≤ most_messages
    pub short : table_length ≤ most_bytes
    pub utf8 : (i : ℕ) → i < length messages → Utf8 (get_or messages i [])

  -- no message has a line end in it, so that each can be a line
  abbrev pub Unbroken : Type 0
  Unbroken = (i k : ℕ) → i < length messages → k < length (get_or messages i []) → get_or (get_or messages i []) k 0 ≡ line_end → ⊥

  -- a good table of just these messages
  pub record Holds (table : List ℕ) : Type 0 where
    pub good : table_good table ≡ true
    pub counts : count table ≡ length messages
    pub each : (i : ℕ) → i < length messages → message table i ≡ get_or messages i []

  -- what is returned, and what stands at the start of the buffer
  pub record Makes (made : Result Table Fault) (buffer : List ℕ) : Type 0 where
    pub returned : made ≡ good (length messages) table_length
    pub holds : Holds (take table_length buffer)

-- ---- what is told where no table is made
module _ (messages : List (List ℕ)) where
  -- the first n lines alone would fit
  pub record FirstFit (n : ℕ) : Type 0 where
    pub most : n ≤ most_messages
    pub short : table_length (take n messages) ≤ most_bytes
    pub utf8 : (i : ℕ) → i < n → Utf8 (get_or messages i [])

  -- the lines before the one that is told would fit, and it has the fault that is told, and none that is looked for before that one
  pub data FirstFault (fault : FaultKind) (line : ℕ) : Type 0 where
    no_line : fault ≡ NoLine → line ≡ 1 → length messages ≡ 0 → FirstFault fault line
    too_many : fault ≡ TooMany → line ≡ most_messages + 1 → line ≤ length messages → FirstFit most_messages → FirstFault fault line
    too_long : (n : ℕ) → fault ≡ TooLong → line ≡ n + 1 → line ≤ length messages → FirstFit n
        → line ≤ most_messages → most_bytes < table_length (take line messages) → FirstFault fault line
    not_utf8 : (n : ℕ) → fault ≡ NotUtf8 → line ≡ n + 1 → line ≤ length messages → FirstFit n
        → line ≤ most_messages → table_length (take line messages) ≤ most_bytes → (Utf8 (get_or messages n []) → ⊥) → FirstFault fault line
