-- A card that is put among bytes: they stay as many, it is read back where it fits, and one that is read and put again changes nothing.
-- From the laws of `put` and, field by field, of `written`. Assumes nothing.
use Prim.Native.Nat.{ℕ, ◌+◌, ◌≤◌, ◌<◌}
use native.Mathlib.Nat.{add-zero}
use native.Mathlib.Omega.{arith}
use mathlib.Core.Path.{◌≡◌, refl}
use mathlib.Core.List.{List, ◌++◌, flat_map}
use lib.ListN.{length, drop}
use Rattle.layout.specs.Layout.{u16_at, u16_bytes, written}
use Rattle.layout.proofs.Put as put
use Rattle.layout.proofs.Again.{Bytes, next_u16}
use Rattle.layout.proofs.Again as again
use Rattle.layout.proofs.U16.{u16_at_among}
use Rattle.card.specs.declared.Card.{Card}
use Rattle.card.specs.Card.{card_width, card_bytes, card_at, put_card}

-- as each field of a card in the code is
pub record CardU16 (c : Card) : Type 0 where
  pub design_u16 : c.design < 65536
  pub set_u16 : c.set < 65536
  pub highest_u16 : c.highest < 65536
  pub pos_u16 : c.pos < 65536
  pub zav_u16 : c.zav < 65536
  pub tolerance_u16 : c.tolerance < 65536
  pub stop_u16 : c.stop < 65536
  pub deceleration_u16 : c.deceleration < 65536
  pub cycle_u16 : c.cycle < 65536
  pub wait_u16 : c.wait < 65536

module _ (J : List ℕ) (at : ℕ) (c : Card) where
  pub put_length : length (put_card J at c) ≡ length J
  unfolding put_card
  put_length = put.put_length J at (card_bytes c)

  pub put_back : at + card_width ≤ length J → CardU16 c → card_at (put_card J at c) at ≡ c
  unfolding card_at put_card flat_map
  put_back fits small =
      let new : List ℕ = written J at (card_bytes c) in
      let first : u16_at new at ≡ c.design =
      rw add-zero at (u16_at_among J at (card_bytes c) fits 0 c.design (omega arith) small.design_u16 refl refl) in
      rw (put.put_fits J at (card_bytes c) fits, first)
      (rw (
        u16_at_among J at (card_bytes c) fits 2 c.set (omega arith) small.set_u16 refl refl,
        u16_at_among J at (card_bytes c) fits 4 c.highest (omega arith) small.highest_u16 refl refl,
        u16_at_among J at (card_bytes c) fits 6 c.pos (omega arith) small.pos_u16 refl refl,
        u16_at_among J at (card_bytes c) fits 8 c.zav (omega arith) small.zav_u16 refl refl,
        u16_at_among J at (card_bytes c) fits 10 c.tolerance (omega arith) small.tolerance_u16 refl refl,
        u16_at_among J at (card_bytes c) fits 12 c.stop (omega arith) small.stop_u16 refl refl,
        u16_at_among J at (card_bytes c) fits 14 c.deceleration (omega arith) small.deceleration_u16 refl refl,
        u16_at_among J at (card_bytes c) fits 16 c.cycle (omega arith) small.cycle_u16 refl refl,
        u16_at_among J at (card_bytes c) fits 18 c.wait (omega arith) small.wait_u16 refl refl,
      ))

-- a card that is read and put again changes no byte
pub put_again : (J : List ℕ) (at : ℕ) → at + card_width ≤ length J → Bytes J → put_card J at (card_at J at) ≡ J
unfolding card_at put_card flat_map
put_again J at fits small =
    let next : (k : ℕ) → at + (k + 1) < length J → drop (at + k) J ≡ u16_bytes (u16_at J (at + k)) ++ drop (at + (k + 2)) J = next_u16 J at small in
    let first : drop at J ≡ u16_bytes (u16_at J at) ++ drop (at + 2) J = rw add-zero at (next 0 (omega arith)) in
    again.put_again J at (card_bytes (card_at J at)) fits
    (rw (first, next 2 (omega arith), next 4 (omega arith), next 6 (omega arith), next 8 (omega arith))
    (rw (next 10 (omega arith), next 12 (omega arith), next 14 (omega arith), next 16 (omega arith), next 18 (omega arith))))
