-- An answer that is put among bytes: they stay as many, it is read back where it fits, and one that is read and put again changes nothing.
-- From the law of `put` and, byte by byte, those of `written`. Assumes nothing.
use Prim.Native.Nat.{ℕ, ◌+◌, ◌≤◌, ◌<◌}
use native.Mathlib.Nat.{add-zero}
use native.Mathlib.Omega.{arith}
use mathlib.Core.Path.{◌≡◌, refl}
use mathlib.Core.List.{List, ◌∷◌, ◌++◌}
use lib.ListN.{length, get_or, drop}
use Rattle.layout.specs.Layout.{u16_at, u16_bytes, written}
use Rattle.layout.proofs.Put as put
use Rattle.layout.proofs.Again.{Bytes, next_byte, next_u16}
use Rattle.layout.proofs.Again as again
use Rattle.layout.proofs.Written.{written_at}
use Rattle.layout.proofs.U16.{u16_at_among}
use Rattle.rules.specs.declared.Answer.{Answer}
use Rattle.rules.specs.Answer.{answer_width, answer_bytes, answer_at, put_answer}

pub put_length : (J : List ℕ) (at : ℕ) (a : Answer) → length (put_answer J at a) ≡ length J
unfolding put_answer
put_length J at a = put.put_length J at (answer_bytes a)

pub put_back : (J : List ℕ) (at : ℕ) (a : Answer) → at + answer_width ≤ length J → a.permitted < 65536 → a.target < 65536
    → answer_at (put_answer J at a) at ≡ a
unfolding answer_at put_answer
put_back J at a fits small small-too =
    let new : List ℕ = written J at (answer_bytes a) in
    let byte : (j : ℕ) → j < answer_width → get_or new (at + j) 0 ≡ get_or (answer_bytes a) j 0 = written_at J at (answer_bytes a) fits in
    let first : u16_at new at ≡ a.permitted =
    rw add-zero at (u16_at_among J at (answer_bytes a) fits 0 a.permitted (omega arith) small refl refl) in
    let second : u16_at new (at + 2) ≡ a.target = u16_at_among J at (answer_bytes a) fits 2 a.target (omega arith) small-too refl refl in
    rw (put.put_fits J at (answer_bytes a) fits, first, second, byte 4 (omega arith), byte 5 (omega arith), byte 6 (omega arith), byte 7 (omega arith))

-- an answer that is read and put again changes no byte
pub put_again : (J : List ℕ) (at : ℕ) → at + answer_width ≤ length J → Bytes J → put_answer J at (answer_at J at) ≡ J
unfolding answer_at put_answer
put_again J at fits small =
    let next : (k : ℕ) → at + k < length J → drop (at + k) J ≡ get_or J (at + k) 0 ∷ drop (at + (k + 1)) J = next_byte J at in
    let first : drop at J ≡ u16_bytes (u16_at J at) ++ drop (at + 2) J = rw add-zero at (next_u16 J at small 0 (omega arith)) in
    again.put_again J at (answer_bytes (answer_at J at)) fits
    (rw (first, next_u16 J at small 2 (omega arith), next 4 (omega arith), next 5 (omega arith), next 6 (omega arith), next 7 (omega arith)))
