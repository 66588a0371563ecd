-- A u16 and its two bytes: what is written of a u16 is the u16 again, and one that ends before the place is as it was.
-- From the laws of `written`, byte by byte. Assumes nothing.
use Prim.Native.Nat.{ℕ, ◌+◌, ◌*◌, ◌/◌, ◌%◌, ◌≤◌, ◌<◌}
use native.Mathlib.Nat.{add-zero, add_assoc}
use native.Mathlib.Omega.{arith}
use mathlib.Core.Path.{◌≡◌, refl, ◌∙◌}
use mathlib.Core.List.{List, [], ◌∷◌, flat_map}
use lib.ListN.{length, get_or, get_or-eq_default}
use Rattle.layout.specs.Layout.{u16_at, u16_bytes, written}
use Rattle.layout.proofs.Written.{written_below, written_at}

-- a place past the end holds 0
pub byte_past : (l : List ℕ) (at : ℕ) → length l ≤ at → get_or l at 0 ≡ 0
byte_past l at h = get_or-eq_default l 0 h

pub u16_at_past : (l : List ℕ) (at : ℕ) → length l ≤ at → u16_at l at ≡ 0
unfolding u16_at
u16_at_past l at h = omega (arith, byte_past l at h, byte_past l (at + 1) (omega arith))

-- a u16 by its two bytes, wherever they stand
pub u16_at_bytes : (l : List ℕ) (at x : ℕ) → x < 65536 → get_or l at 0 ≡ x % 256 → get_or l (at + 1) 0 ≡ x / 256 % 256 → u16_at l at ≡ x
unfolding u16_at
u16_at_bytes l at x h low high = omega arith

-- one among bytes that are written, by its two bytes among them
pub u16_at_among : (l : List ℕ) (at : ℕ) (new : List ℕ) → at + length new ≤ length l → (k x : ℕ) → k + 2 ≤ length new → x < 65536
    → get_or new k 0 ≡ x % 256 → get_or new (k + 1) 0 ≡ x / 256 % 256 → u16_at (written l at new) (at + k) ≡ x
u16_at_among l at new fits k x within h low high =
    u16_at_bytes (written l at new) (at + k) x h
    (written_at l at new fits k (omega arith) ∙ low)
    (rw add_assoc (written_at l at new fits (k + 1) (omega arith) ∙ high))

pub u16_at_written : (l : List ℕ) (at x : ℕ) → at + 2 ≤ length l → x < 65536 → u16_at (written l at (u16_bytes x)) at ≡ x
u16_at_written l at x fits h = rw add-zero at (u16_at_among l at (u16_bytes x) fits 0 x (omega arith) h refl refl)

pub u16_at_below : (l : List ℕ) (at : ℕ) (new : List ℕ) → at + length new ≤ length l → (k : ℕ) → k + 2 ≤ at
    → u16_at (written l at new) k ≡ u16_at l k
unfolding u16_at
u16_at_below l at new fits k h = rw (written_below l at new fits k (omega arith), written_below l at new fits (k + 1) (omega arith))

pub u16s_length : (new : List ℕ) → length (flat_map u16_bytes new) ≡ 2 * length new
unfolding flat_map
u16s_length [] = refl
u16s_length (x ∷ new) = let r = u16s_length new in omega arith
