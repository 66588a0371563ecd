-- What a list is once others are written over a part of it: as long as before, the new bytes in that part, every other byte as it was.
-- By the parts before, in and after the place; stores one after the other by `sets-eq`. Assumes nothing.
use Prim.Native.Nat.{ℕ, suc, ◌+◌, ◌-◌, ◌≤◌, ◌<◌}
use native.Mathlib.Nat.{add-zero, add_assoc}
use native.Mathlib.Omega.{arith}
use mathlib.Core.Path.{◌≡◌, sym, ap, ◌∙◌}
use mathlib.Core.List.{List, [], ◌∷◌, ◌++◌, append_assoc, append-nil}
use lib.ListN.{length, get_or, take, drop, set, length-append, length-drop, take-append-drop, get_or-append}
use lib.Seq.{length-take-le, take_at, drop_at, drop-drop, get_or-take, get_or-drop, sets-eq, length-sets}
use borrow.Rule.Slice.PartMut.{put_mid}
use Rattle.layout.specs.Layout.{written}

pub written-nil : (l : List ℕ) (at : ℕ) → written l at [] ≡ l
unfolding written
written-nil l at = simp (add-zero, append-nil, take-append-drop)

module _ (l : List ℕ) (at : ℕ) (new : List ℕ) (fits : at + length new ≤ length l) where
  pub length-written : length (written l at new) ≡ length l
  unfolding written
  length-written = ap length (sym (sets-eq new l at fits)) ∙ length-sets l at new

  -- up to the end of the new bytes
  length_upto : length (take at l ++ new) ≡ at + length new
  length_upto = length-append (take at l) new ∙ ap (λ (k : ℕ). k + length new) (length-take-le at l (omega arith))

  pub written_below : (k : ℕ) → k < at → get_or (written l at new) k 0 ≡ get_or l k 0
  unfolding written
  written_below k h =
      let e : k < length (take at l) = rw (length-take-le at l (omega arith)) h in
      rw (append_assoc, get_or-append (take at l) _ 0 k e) (get_or-take at l k 0 h)

  pub written_at : (j : ℕ) → j < length new → get_or (written l at new) (at + j) 0 ≡ get_or new j 0
  unfolding written
  written_at j h =
      rw (append_assoc, ← get_or-drop {A = ℕ} at _ j 0, drop_at (take at l) _ at (length-take-le at l (omega arith)))
      (get_or-append new _ 0 j h)

  pub written_above : (k : ℕ) → at + length new ≤ k → get_or (written l at new) k 0 ≡ get_or l k 0
  unfolding written
  written_above k h =
      let n : ℕ = at + length new in
      let e : n + (k - n) ≡ k = omega arith in
      ap (λ (i : ℕ). get_or (written l at new) i 0) (sym e)
      ∙ sym (get_or-drop n (written l at new) (k - n) 0)
      ∙ ap (λ (x : List ℕ). get_or x (k - n) 0) (drop_at (take at l ++ new) (drop n l) n length_upto)
      ∙ get_or-drop n l (k - n) 0
      ∙ ap (λ (i : ℕ). get_or l i 0) e

-- what is written next to the last is written with it
pub written-append : (l : List ℕ) (at : ℕ) (a b : List ℕ) → at + length a + length b ≤ length l
    → written (written l at a) (at + length a) b ≡ written l at (a ++ b)
unfolding written
written-append l at a b fits =
    let p : List ℕ = take at l ++ a in
    let n : ℕ = at + length a in
    let e : length p ≡ n = length_upto l at a (omega arith) in
    ap (λ (x : List ℕ). x ++ b ++ drop (n + length b) (p ++ drop n l)) (take_at p (drop n l) n e)
    ∙ ap (λ (y : List ℕ). p ++ b ++ y)
    (sym (drop-drop (length b) n (p ++ drop n l)) ∙ ap (drop (length b)) (drop_at p (drop n l) n e) ∙ drop-drop (length b) n l)
    ∙ simp (append_assoc, length-append, add_assoc)

-- one more byte, and what is written behind it
pub store_then : (l : List ℕ) (at a : ℕ) (new : List ℕ) → at + suc (length new) ≤ length l
    → written (set l at a) (at + 1) new ≡ written l at (a ∷ new)
unfolding written
store_then l at a new fits =
    let one : set l at a ≡ written l at (a ∷ []) = sets-eq (a ∷ []) l at (omega arith) in
    ap (λ (x : List ℕ). written x (at + 1) new) one ∙ written-append l at (a ∷ []) new (omega arith)

-- a part of a slice that was filled with as many bytes, as `copy_from_slice` leaves it
pub part_written : (l new part : List ℕ) (at n : ℕ) → at + n ≤ length l
    → length part ≡ length (take (at + n - at) (drop at l)) → part ≡ new → put_mid at (at + n - at) l part ≡ written l at new
unfolding written
part_written l new part at n fits many e =
    let count : at + n - at ≡ n = omega arith in
    let as_many : length new ≡ n = (omega (arith, ap length e, rw count at many, length-take-le n (drop at l) (omega (arith, length-drop at l)))) in
    rw (e, count, as_many, drop-drop n at l, append_assoc)
