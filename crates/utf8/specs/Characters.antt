-- How many characters a text has, by its bytes: each character has one byte that is not 80..BF.
-- That these are as many as the scalar values of a well-formed text is `characters_values` in proofs/Counted.antt.
use Rattle.std.specs.Prelude.{ℕ, ◌+◌, cond, List, [], ◌∷◌}
use Rattle.utf8.specs.Rows.{is_trailing}

unfoldable pub characters : List ℕ → ℕ
characters [] = 0
characters (byte ∷ bytes) = cond (is_trailing byte) 0 1 + characters bytes
