-- Well-formed UTF-8, as the Unicode Standard defines it in its section 3.9: scalar values, the encoding of each, and these end to end.
use Rattle.std.specs.Prelude.{ℕ, ◌+◌, ◌/◌, ◌%◌, ◌≤◌, ◌≡◌, ◌⊎◌, cond, leb}
use mathlib.Core.List.{List, [], ◌∷◌, flat_map}

-- D76: a scalar value is a number from 0 to 10FFFF, without D800 to DFFF
abbrev pub Scalar : ℕ → Type 0
Scalar value = (value ≤ 0xD7FF) ⊎ ((0xE000 ≤ value) × (value ≤ 0x10FFFF))

-- table 3-6: a byte behind the first holds six bits, 10xxxxxx
abbrev pub trailing : ℕ → ℕ
trailing bits = 0x80 + bits % 0x40

-- D92 and table 3-6: the first row that has room for the value
--     xxxxxxx                  0xxxxxxx
--     yyyyyxxxxxx              110yyyyy 10xxxxxx
--     zzzzyyyyyyxxxxxx         1110zzzz 10yyyyyy 10xxxxxx
--     uuuuuzzzzyyyyyyxxxxxx    11110uuu 10uuzzzz 10yyyyyy 10xxxxxx
unfoldable pub encoding : ℕ → List ℕ
encoding value =
    cond (leb value 0x7F) (value ∷ [])
    (cond (leb value 0x7FF) ((0xC0 + value / 0x40) ∷ trailing value ∷ [])
    (cond (leb value 0xFFFF) ((0xE0 + value / 0x1000) ∷ trailing (value / 0x40) ∷ trailing value ∷ [])
    ((0xF0 + value / 0x40000) ∷ trailing (value / 0x1000) ∷ trailing (value / 0x40) ∷ trailing value ∷ [])))

-- each of them is a scalar value
abbrev pub Scalars : List ℕ → Type 0
Scalars [] = Unit {0}
Scalars (value ∷ values) = Scalar value × Scalars values

-- D86: there are scalar values whose encodings, end to end, are the bytes
pub record Utf8 (bytes : List ℕ) : Type 0 where
  pub values : List ℕ
  pub scalars : Scalars values
  pub encoded : flat_map encoding values ≡ bytes

-- the bytes say which scalar values they are: none can be read in two ways
abbrev pub ReadOneWay : Type 0
ReadOneWay = (bytes : List ℕ) (one other : Utf8 bytes) → one.values ≡ other.values
