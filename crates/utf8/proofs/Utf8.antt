-- UTF-8 by steps: bytes are UTF-8 exactly where they begin with an encoding and what lies behind it is UTF-8; no bytes are UTF-8.
-- By the width of the encoding with which they begin. So it is decided, step by step.
use Prim.Native.Nat.{ℕ, zero, suc, ◌+◌, ◌≤◌, ◌<◌}
use native.Mathlib.Omega.{arith}
use native.Mathlib.Decide.{map_dec}
use mathlib.Core.Path.{◌≡◌, refl, sym, ap, ap₂, ◌∙◌}
use mathlib.Core.Logic.{◌↔◌}
use mathlib.Core.Bool.{Bool, true, false}
use mathlib.Core.List.{List, [], ◌∷◌, ◌++◌, flat_map}
use lib.Dec.{eqb}
use lib.ListN.{length, take, drop, length-drop}
use lib.Seq.{slice, drop_at, drop-drop, length-slice}
use borrow.Author.Tests.{eqb-true, eqb-false}
use Rattle.utf8.specs.Utf8.{Scalars, encoding, Utf8}
use Rattle.utf8.specs.Rows.{width}
use Rattle.utf8.proofs.Width.{width_of, width_some, width_begins}

pub utf8_nil : Utf8 []
unfolding flat_map
utf8_nil = record { values = []; scalars = tt; encoded = refl }

-- bytes begin with an encoding, and what lies behind it is UTF-8
pub record Stepped (bytes : List ℕ) : Type 0 where
  pub some : width bytes ≡ 0 → ⊥
  pub rest : Utf8 (drop (width bytes) bytes)

pub utf8_stepped : (bytes : List ℕ) → 0 < length bytes → Utf8 bytes → Stepped bytes
unfolding flat_map
utf8_stepped bytes long u = go u.values u.scalars u.encoded
  where
    go : (values : List ℕ) → Scalars values → flat_map encoding values ≡ bytes → Stepped bytes
    go [] s e = absurd (let n = ap length e in omega arith)
    go (v ∷ values) s e =
        let w : width bytes ≡ length (encoding v) = ap width (sym e) ∙ width_of v _ s.0 in
        let behind : drop (width bytes) bytes ≡ flat_map encoding values = ap₂ drop w (sym e) ∙ drop_at (encoding v) _ _ refl in
        let n = width_some v in
        record { some = λ z. omega arith; rest = record { values = values; scalars = s.1; encoded = sym behind } }

pub stepped_utf8 : (bytes : List ℕ) → Stepped bytes → Utf8 bytes
unfolding flat_map
stepped_utf8 bytes h =
    let b = width_begins bytes h.some in
    let u = h.rest in
    record {
      values = b.value ∷ u.values;
      scalars = (b.scalar, u.scalars);
      encoded = ap (λ (rest : List ℕ). encoding b.value ++ rest) u.encoded ∙ sym b.starts;
    }

-- yes or no, each with its proof, from a yes or no of what lies behind the first encoding
utf8_next : (bytes : List ℕ) → ((width bytes ≡ 0 → ⊥) → Dec (Utf8 (drop (width bytes) bytes))) → Dec (Utf8 bytes)
utf8_next [] behind = yes utf8_nil
utf8_next (byte ∷ bytes) behind = go (eqb (width (byte ∷ bytes)) 0) refl
  where
    stepped : Utf8 (byte ∷ bytes) → Stepped (byte ∷ bytes)
    stepped = utf8_stepped (byte ∷ bytes) (omega arith)

    go : (z : Bool) → eqb (width (byte ∷ bytes)) 0 ≡ z → Dec (Utf8 (byte ∷ bytes))
    go true e = no (λ u. (stepped u).some (eqb-true _ _ e))
    go false e =
        let some = eqb-false _ _ e in map_dec (λ r. stepped_utf8 _ (record { some = some; rest = r })) (λ u. (stepped u).rest) (behind some)

pub utf8? : (bytes : List ℕ) → Dec (Utf8 bytes)
utf8? bytes = within (length bytes) bytes (omega arith)
  where
    none : (bytes : List ℕ) → length bytes ≤ 0 → Utf8 bytes
    none [] h = utf8_nil
    none (byte ∷ bytes) h = absurd (omega arith)

    shorter : (n : ℕ) (bytes : List ℕ) → length bytes ≤ suc n → (width bytes ≡ 0 → ⊥) → length (drop (width bytes) bytes) ≤ n
    shorter n bytes h some = rw length-drop (omega arith)

    within : (n : ℕ) (bytes : List ℕ) → length bytes ≤ n → Dec (Utf8 bytes)
    within zero bytes h = yes (none bytes h)
    within (suc n) bytes h = utf8_next bytes (λ some. within n (drop (width bytes) bytes) (shorter n bytes h some))

-- ---- the bytes of a list from a place to a place, one encoding after the other
module _ (bytes : List ℕ) (at to : ℕ) (fits : to ≤ length bytes) (some : at < to) where
  long : 0 < length (slice at to bytes)
  long = rw (length-slice at to bytes fits) (omega arith)

  pub utf8_none : width (slice at to bytes) ≡ 0 → Utf8 (slice at to bytes) → ⊥
  utf8_none e u = (utf8_stepped (slice at to bytes) long u).some e

  pub utf8_on : (w : ℕ) → w ≡ width (slice at to bytes) → (w ≡ 0 → ⊥) → Utf8 (slice at to bytes) ↔ Utf8 (slice (at + w) to bytes)
  utf8_on w e n =
      let behind : drop (width (slice at to bytes)) (slice at to bytes) ≡ slice (at + w) to bytes =
      ap (λ (k : ℕ). drop k (slice at to bytes)) (sym e) ∙ drop-drop w at (take to bytes) in (
        λ u. rw behind at (utf8_stepped (slice at to bytes) long u).rest,
        λ u. stepped_utf8 (slice at to bytes) (record { some = λ z. n (e ∙ z); rest = rw behind u }),
      )
