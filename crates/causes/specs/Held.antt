-- The held causes: as a mask, NZ1 bit 0 to NZ5 bit 4, and as a list; the lowest-numbered and how many.
use Rattle.std.specs.Prelude.{ℕ, ◌+◌, Bool, cond, List, [], ◌∷◌, length}
use Rattle.numbers.specs.Bits.{bit_on}
use Rattle.causes.specs.Causes.{Causes}

-- the weights of the causes in the mask, from bit 0
abbrev pub nz1 : ℕ
nz1 = 1

abbrev pub nz2 : ℕ
nz2 = 2

abbrev pub nz3 : ℕ
nz3 = 4

abbrev pub nz4 : ℕ
nz4 = 8

abbrev pub nz5 : ℕ
nz5 = 16

-- all five
abbrev pub all_held : ℕ
all_held = nz1 + nz2 + nz3 + nz4 + nz5

unfoldable pub held_in : ℕ → Causes
held_in mask = record { nz1 = bit_on mask nz1; nz2 = bit_on mask nz2; nz3 = bit_on mask nz3; nz4 = bit_on mask nz4; nz5 = bit_on mask nz5 }

unfoldable pub mask_of : Causes → ℕ
mask_of causes = cond causes.nz1 nz1 0 + cond causes.nz2 nz2 0 + cond causes.nz3 nz3 0 + cond causes.nz4 nz4 0 + cond causes.nz5 nz5 0

unfoldable pub if_held : Bool → ℕ → List ℕ → List ℕ
if_held held number rest = cond held (number ∷ rest) rest

-- the numbers of the causes that are held
unfoldable pub listed : Causes → List ℕ
listed causes = if_held causes.nz1 1 (if_held causes.nz2 2 (if_held causes.nz3 3 (if_held causes.nz4 4 (if_held causes.nz5 5 []))))

unfoldable pub first_or : ℕ → List ℕ → ℕ
first_or none [] = none
first_or none (number ∷ rest) = number

-- the lowest-numbered held cause, 0 if none, and how many are held
unfoldable pub lowest : ℕ → ℕ
lowest mask = first_or 0 (listed (held_in mask))

unfoldable pub how_many : ℕ → ℕ
how_many mask = length (listed (held_in mask))
