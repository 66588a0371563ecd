-- A record that is put among bytes: they stay as many, no other byte changes, it is read back, and one that ends before it is as it was;
-- one that is read and put again changes nothing.
-- From the laws of `put` and, byte by byte, of `written`. Assumes nothing.
use Prim.Native.Nat.{ℕ, ◌+◌, ◌≤◌, ◌<◌}
use native.Mathlib.Nat.{add-zero}
use native.Mathlib.Omega.{arith}
use mathlib.Core.Path.{◌≡◌}
use mathlib.Core.Logic.{◌⊎◌, inl}
use mathlib.Core.List.{List, ◌∷◌, ◌++◌}
use lib.ListN.{length, get_or, drop}
use Rattle.layout.specs.Layout.{u16_at, u16_bytes, written}
use Rattle.layout.proofs.Written.{written_at}
use Rattle.layout.proofs.Put as put
use Rattle.layout.proofs.Again.{Bytes, next_byte, next_u16}
use Rattle.layout.proofs.Again as again
use Rattle.layout.proofs.U16.{u16_at_bytes}
use Rattle.record.specs.declared.Record.{Record}
use Rattle.record.specs.Record.{record_width, record_bytes, record_at, put_record}

-- a record is its bytes and no others
pub record_same : (J K : List ℕ) (at : ℕ) → ((j : ℕ) → j < record_width → get_or K (at + j) 0 ≡ get_or J (at + j) 0)
    → record_at K at ≡ record_at J at
unfolding record_at u16_at
record_same J K at same =
    let byte0 : get_or K at 0 ≡ get_or J at 0 = rw add-zero at (same 0 (omega arith)) in
    rw (byte0, same 1 (omega arith), same 2 (omega arith), same 3 (omega arith))
    (rw (same 4 (omega arith), same 5 (omega arith), same 6 (omega arith), same 7 (omega arith)))

module _ (J : List ℕ) (at : ℕ) (r : Record) where
  pub put_fits : at + record_width ≤ length J → put_record J at r ≡ written J at (record_bytes r)
  unfolding put_record
  put_fits fits = put.put_fits J at (record_bytes r) fits

  pub put_length : length (put_record J at r) ≡ length J
  unfolding put_record
  put_length = put.put_length J at (record_bytes r)

  pub put_other : (k : ℕ) → (k < at) ⊎ (at + record_width ≤ k) → get_or (put_record J at r) k 0 ≡ get_or J k 0
  unfolding put_record
  put_other = put.put_other J at (record_bytes r)

  pub put_before : (k : ℕ) → k + record_width ≤ at → record_at (put_record J at r) k ≡ record_at J k
  put_before k h = record_same J (put_record J at r) k (λ j l. put_other (k + j) (inl (omega arith)))

  pub put_back : at + record_width ≤ length J → r.v < 65536 → record_at (put_record J at r) at ≡ r
  unfolding record_at
  put_back fits small =
      let new : List ℕ = written J at (record_bytes r) in
      let byte : (j : ℕ) → j < record_width → get_or new (at + j) 0 ≡ get_or (record_bytes r) j 0 = written_at J at (record_bytes r) fits in
      let speed : u16_at new at ≡ r.v = u16_at_bytes new at r.v small (rw add-zero at (byte 0 (omega arith))) (byte 1 (omega arith)) in
      rw (put_fits fits, speed, byte 2 (omega arith), byte 3 (omega arith))
      (rw (byte 4 (omega arith), byte 5 (omega arith), byte 6 (omega arith), byte 7 (omega arith)))

-- a record that is read and put again changes no byte
pub put_again : (J : List ℕ) (at : ℕ) → at + record_width ≤ length J → Bytes J → put_record J at (record_at J at) ≡ J
unfolding record_at put_record
put_again J at fits small =
    let next : (k : ℕ) → at + k < length J → drop (at + k) J ≡ get_or J (at + k) 0 ∷ drop (at + (k + 1)) J = next_byte J at in
    let first : drop at J ≡ u16_bytes (u16_at J at) ++ drop (at + 2) J = rw add-zero at (next_u16 J at small 0 (omega arith)) in
    again.put_again J at (record_bytes (record_at J at)) fits
    (rw (first, next 2 (omega arith), next 3 (omega arith), next 4 (omega arith))
    (rw (next 5 (omega arith), next 6 (omega arith), next 7 (omega arith))))
