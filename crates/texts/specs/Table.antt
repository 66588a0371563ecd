-- A table of texts: the count of its messages and their offsets, each a u16 with its low byte first, then the messages in UTF-8.
use Rattle.std.specs.Prelude.{ℕ, ◌+◌, ◌*◌, Bool, ◌&&◌, List, leb, eqb, length}
use Rattle.std.proofs.Math.Bool.{decide}
use Rattle.std.proofs.Math.Seq.{slice}
use Rattle.numbers.specs.All.{all_below}
use Rattle.layout.specs.Layout.{u16_at}
use Rattle.utf8.proofs.Utf8.{utf8?}

abbrev pub most_messages : ℕ
most_messages = 64

-- the longest table: a u16 offset says where it ends
abbrev pub most_bytes : ℕ
most_bytes = 65535

-- the count, then one offset more than messages
abbrev pub header_width : ℕ → ℕ
header_width messages = 2 + 2 * (messages + 1)

module _ (table : List ℕ) where
  abbrev pub count : ℕ
  count = u16_at table 0

  abbrev pub offset : ℕ → ℕ
  offset i = u16_at table (2 + 2 * i)

  -- message i, from 0, begins at its offset and ends at the next one
  abbrev pub message : ℕ → List ℕ
  message i = slice (offset i) (offset (i + 1)) table

  -- count 1 to 64, the first offset just after the offsets, the last the length
  unfoldable pub header_good : Bool
  header_good =
      leb 1 count && leb count most_messages && eqb (offset 0) (header_width count) && eqb (offset count) (length table)

  -- the offset does not fall, and the message is UTF-8 by itself: `utf8?` decides `Utf8`, the Standard's definition, with a proof either way
  unfoldable pub message_good : ℕ → Bool
  message_good i = leb (offset i) (offset (i + 1)) && decide (utf8? (message i))

  unfoldable pub table_good : Bool
  table_good = header_good && all_below message_good count
