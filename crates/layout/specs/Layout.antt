-- Bytes at places of a list: a u16 with its low byte first, and a list with other bytes written over a part of it.
use Rattle.std.specs.Prelude.{ℕ, ◌+◌, ◌*◌, ◌/◌, ◌%◌, cond, List, [], ◌∷◌, ◌++◌, leb, length, get_or, take, drop}

-- the u16 at a place; a place past the end holds 0
unfoldable pub u16_at : List ℕ → ℕ → ℕ
u16_at bytes at = get_or bytes at 0 + 256 * get_or bytes (at + 1) 0

-- the two bytes of a u16
abbrev pub u16_bytes : ℕ → List ℕ
u16_bytes x = x % 256 ∷ x / 256 % 256 ∷ []

-- the list with `new` from the place on, every other byte as it was
unfoldable pub written : List ℕ → ℕ → List ℕ → List ℕ
written bytes at new = take at bytes ++ new ++ drop (at + length new) bytes

-- where `new` does not fit, nothing is written
unfoldable pub put : List ℕ → ℕ → List ℕ → List ℕ
put bytes at new = cond (leb (at + length new) (length bytes)) (written bytes at new) bytes
