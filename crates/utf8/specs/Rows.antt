-- Table 3-7 of the Standard: the encodings of scalar values by ranges of their bytes, row by row, which is what the code tests.
-- Nobody has to believe it: proofs/Width.antt shows that these are the encodings of scalar values, and that there are no others.
use Rattle.std.specs.Prelude.{ℕ, Bool, false, ◌&&◌, ◌||◌, cond, List, [], ◌∷◌, get_or, leb}

-- a byte behind the first: 80..BF
unfoldable pub is_trailing : ℕ → Bool
is_trailing byte = leb 0x80 byte && leb byte 0xBF

-- the first two bytes of a row: first..last, then low..high
unfoldable pub row : ℕ → ℕ → ℕ → ℕ → ℕ → ℕ → Bool
row first last low high a b = leb first a && leb a last && leb low b && leb b high

-- one of several rows
unfoldable pub any_of : List Bool → Bool
any_of [] = false
any_of (test ∷ tests) = test || any_of tests

-- the rows of one, two, three and four bytes
unfoldable pub one : ℕ → Bool
one a = leb a 0x7F

unfoldable pub two : ℕ → ℕ → Bool
two a b = row 0xC2 0xDF 0x80 0xBF a b

unfoldable pub three : ℕ → ℕ → ℕ → Bool
three a b c =
    any_of
    (row 0xE0 0xE0 0xA0 0xBF a b
    ∷ row 0xE1 0xEC 0x80 0xBF a b
    ∷ row 0xED 0xED 0x80 0x9F a b
    ∷ row 0xEE 0xEF 0x80 0xBF a b
    ∷ [])
    && is_trailing c

unfoldable pub four : ℕ → ℕ → ℕ → ℕ → Bool
four a b c d =
    any_of
    (row 0xF0 0xF0 0x90 0xBF a b
    ∷ row 0xF1 0xF3 0x80 0xBF a b
    ∷ row 0xF4 0xF4 0x80 0x8F a b
    ∷ [])
    && is_trailing c && is_trailing d

-- how many bytes the encoding takes with which the bytes begin, 0 where they begin with none; past the end stands FF, a byte of no row
unfoldable pub width : List ℕ → ℕ
width bytes =
    let a = get_or bytes 0 0xFF in
    let b = get_or bytes 1 0xFF in
    let c = get_or bytes 2 0xFF in
    let d = get_or bytes 3 0xFF in
    cond (one a) 1 (cond (two a b) 2 (cond (three a b c) 3 (cond (four a b c d) 4 0)))
