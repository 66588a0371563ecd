-- A well-formed text has as many characters as scalar values: of each encoding all bytes but the first are 80..BF.
-- By the size of the value, then by induction on the values.
use Prim.Native.Nat.{ℕ, suc, ◌+◌, ◌/◌, ◌<◌}
use native.Mathlib.Omega.{arith}
use mathlib.Core.Path.{◌≡◌, refl, sym, ap, ◌∙◌}
use mathlib.Core.Bool.{Bool, false, true, not, cond, and-false}
use mathlib.Core.List.{List, [], ◌∷◌, ◌++◌, flat_map}
use lib.ListN.{length}
use borrow.Author.Tests.{lt-leb}
use Rattle.std.specs.List.{count_by}
use Rattle.std.proofs.lemmas.List.Recursion.{is_count_by}
use Rattle.utf8.specs.Utf8.{trailing, encoding, Utf8}
use Rattle.utf8.specs.Rows.{is_trailing}
use Rattle.utf8.specs.Characters.{characters}
use Rattle.utf8.proofs.Encoding.{Sized, in_one, in_two, in_three, in_four, sized, trailing_iff}

trailing_low : (byte : ℕ) → byte < 0x80 → is_trailing byte ≡ false
unfolding is_trailing
trailing_low byte h = rw (lt-leb 0x80 byte h)

trailing_high : (byte : ℕ) → 0xBF < byte → is_trailing byte ≡ false
unfolding is_trailing
trailing_high byte h = rw (lt-leb byte 0xBF h, and-false)

trailing_next : (bits : ℕ) → is_trailing (trailing bits) ≡ true
trailing_next bits = (trailing_iff _).1 (omega arith)

one_more : (v : ℕ) (rest : List ℕ) → characters (encoding v ++ rest) ≡ suc (characters rest)
unfolding characters
one_more v rest = go (sized v)
  where
    go : Sized v → characters (encoding v ++ rest) ≡ suc (characters rest)
    go (in_one h e) = rw (e, trailing_low v (omega arith)) (omega arith)
    go (in_two l h e) = rw (e, trailing_high (0xC0 + v / 64) (omega arith), trailing_next v) (omega arith)
    go (in_three l h e) = rw (e, trailing_high (0xE0 + v / 4096) (omega arith), trailing_next (v / 64), trailing_next v) (omega arith)
    go (in_four l e) =
        rw (e, trailing_high (0xF0 + v / 262144) (omega arith), trailing_next (v / 4096), trailing_next (v / 64), trailing_next v) (omega arith)

counted : (values : List ℕ) → characters (flat_map encoding values) ≡ length values
unfolding flat_map characters
counted [] = refl
counted (v ∷ values) = one_more v (flat_map encoding values) ∙ ap suc (counted values)

pub characters_values : (bytes : List ℕ) (u : Utf8 bytes) → characters bytes ≡ length u.values
characters_values bytes u = ap characters (sym u.encoded) ∙ counted u.values

-- as the code counts them
pub characters_count : (bytes : List ℕ) → characters bytes ≡ count_by (λ byte. not (is_trailing byte)) bytes
unfolding characters
characters_count bytes = is_count_by characters (λ byte. not (is_trailing byte)) refl (λ byte bytes. next (is_trailing byte) (characters bytes)) bytes
  where
    next : (trailing : Bool) (more : ℕ) → cond trailing 0 1 + more ≡ cond (not trailing) (1 + more) more
    next true more = omega arith
    next false more = refl
