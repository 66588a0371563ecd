-- What is read from its place and written there again changes no byte: the bytes from a place on, taken apart by what is read of them.
-- By the laws of `take` and `drop`; of a u16 because its bytes are below 256.
use Prim.Native.Nat.{ℕ, ◌+◌, ◌*◌, ◌/◌, ◌%◌, ◌≤◌, ◌<◌}
use native.Mathlib.Nat.{add_assoc}
use native.Mathlib.Numerals.{add-one}
use native.Mathlib.Omega.{arith}
use mathlib.Core.Path.{◌≡◌, sym, ap, ap₂, ◌∙◌}
use mathlib.Core.List.{List, ◌∷◌, ◌++◌, append_assoc}
use lib.ListN.{length, get_or, take, drop, take-append-drop}
use lib.Seq.{drop-cons}
use Rattle.layout.specs.Layout.{u16_at, u16_bytes, written, put}
use Rattle.layout.proofs.Put.{put_fits}

-- as the bytes of a slice in the code are
abbrev pub Bytes : List ℕ → Type 0
Bytes l = (k : ℕ) → get_or l k 0 < 256

module _ (l : List ℕ) (at : ℕ) where
  pub put_again : (new : List ℕ) → at + length new ≤ length l → drop at l ≡ new ++ drop (at + length new) l → put l at new ≡ l
  unfolding written
  put_again new fits e =
      put_fits l at new fits ∙ append_assoc (take at l) new _ ∙ ap (λ (x : List ℕ). take at l ++ x) (sym e) ∙ take-append-drop at l

  pub next_byte : (k : ℕ) → at + k < length l → drop (at + k) l ≡ get_or l (at + k) 0 ∷ drop (at + (k + 1)) l
  next_byte k h = rw (← add_assoc, add-one (at + k)) (drop-cons l (at + k) 0 h)

  pub next_u16 : Bytes l → (k : ℕ) → at + (k + 1) < length l → drop (at + k) l ≡ u16_bytes (u16_at l (at + k)) ++ drop (at + (k + 2)) l
  unfolding u16_at
  next_u16 small k h =
      let low = get_or l (at + k) 0 in
      let high = get_or l (at + k + 1) 0 in
      let small_low : low < 256 = small (at + k) in
      let small_high : high < 256 = small (at + k + 1) in
      let first : low ≡ (low + 256 * high) % 256 = omega arith in
      let over : (low + 256 * high) / 256 ≡ high = omega arith in
      let second : high ≡ (low + 256 * high) / 256 % 256 = rw over (omega arith) in
      let place : at + k + 1 ≡ at + (k + 1) = omega arith in
      let past : k + 2 ≡ k + 1 + 1 = omega arith in
      let next : drop (at + (k + 1)) l ≡ high ∷ drop (at + (k + 2)) l = rw (place, past) (next_byte (k + 1) h) in
      next_byte k (omega arith)
      ∙ ap (λ (x : List ℕ). low ∷ x) next
      ∙ ap₂ (λ (a b : ℕ). a ∷ b ∷ drop (at + (k + 2)) l) first second
