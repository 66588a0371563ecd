-- The table of a list of messages: their count, their offsets, the messages end to end.
use Rattle.std.specs.Prelude.{ℕ, ◌+◌, ◌≤◌, ◌≡◌, length}
use mathlib.Core.List.{List, [], ◌∷◌, ◌++◌, flatten}
use Rattle.layout.specs.Layout.{u16_bytes}
use Rattle.texts.specs.Table.{most_bytes, header_width}

-- the offset of each message, and the end of the last
unfoldable pub offsets : ℕ → List (List ℕ) → List ℕ
offsets at [] = u16_bytes at
offsets at (message ∷ messages) = u16_bytes at ++ offsets (at + length message) messages

unfoldable pub table_of : List (List ℕ) → List ℕ
table_of messages = u16_bytes (length messages) ++ (offsets (header_width (length messages)) messages ++ flatten messages)

-- the messages are so many, a u16 says where their table ends, and it has room
pub record Room (messages : List (List ℕ)) (count room : ℕ) : Type 0 where
  pub counts : count ≡ length messages
  pub short : header_width count + length (flatten messages) ≤ most_bytes
  pub fits : header_width count + length (flatten messages) ≤ room
