-- The bytes of a list from a place to a place: as the code cuts them, where the list ends before the second place, and where none are left.
-- By the laws of `take` and `drop`. Assumes nothing.
use Prim.Native.Nat.{ℕ, zero, suc, ◌-◌, ◌≤◌, ◌<◌, min}
use native.Mathlib.Nat.{sub-zero}
use native.Mathlib.Omega.{arith}
use mathlib.Core.Path.{◌≡◌, sym, ap, ◌∙◌}
use mathlib.Core.Logic.{⊎_elim}
use mathlib.Core.List.{List, [], ◌∷◌}
use lib.ListN.{length, take, drop, length-take, drop_of_length-le}
use lib.Seq.{slice, take_all, take-length, take-nil}
use Rattle.numbers.proofs.Tests.{le_or_lt}

-- `&bytes[from..to]`
pub cut_slice : (bytes : List ℕ) (from to : ℕ) → take (to - from) (drop from bytes) ≡ slice from to bytes
cut_slice bytes zero to = rw sub-zero
cut_slice [] (suc from) to = take-nil (to - suc from) ∙ sym (ap (drop (suc from)) (take-nil to))
cut_slice (b ∷ bytes) (suc from) zero = let e : 0 - suc from ≡ 0 = omega arith in rw e
cut_slice (b ∷ bytes) (suc from) (suc to) =
    let e : suc to - suc from ≡ to - from = omega arith in rw e (cut_slice bytes from to)

-- what is past the end of the list is no part of it
pub up_to_end : (bytes : List ℕ) (from to : ℕ) → slice from (min to (length bytes)) bytes ≡ slice from to bytes
up_to_end bytes from to = ap (drop from) (take_end bytes to)
  where
    take_end : (bytes : List ℕ) (to : ℕ) → take (min to (length bytes)) bytes ≡ take to bytes
    take_end bytes to =
        ⊎_elim
        (λ (h : to ≤ length bytes). let e : min to (length bytes) ≡ to = omega arith in rw e)
        (λ (h : length bytes < to).
        let e : min to (length bytes) ≡ length bytes = omega arith in rw e (take-length bytes ∙ sym (take_all to bytes (omega arith))))
        (le_or_lt to (length bytes))

pub none_left : (bytes : List ℕ) (at to : ℕ) → to ≤ at → slice at to bytes ≡ []
none_left bytes at to h = drop_of_length-le (take to bytes) {i = at} (rw length-take (omega arith))
