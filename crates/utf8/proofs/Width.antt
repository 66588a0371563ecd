-- The width that the rows of table 3-7 give: that of the encoding with which the bytes begin, and 0 where they begin with none.
-- By the size of the value, and by the row that the bytes stand in.
use Prim.Native.Nat.{ℕ, suc, ◌+◌, ◌/◌, ◌≤◌, ◌<◌}
use native.Mathlib.Omega.{arith}
use mathlib.Core.Path.{◌≡◌, refl, ap, ◌∙◌}
use mathlib.Core.Logic.{⊎_elim}
use mathlib.Core.Bool.{Bool, true, false, cond}
use mathlib.Core.List.{List, ◌∷◌, ◌++◌}
use lib.ListN.{length, get_or, drop, get_or-eq_default}
use lib.Seq.{drop-cons}
use borrow.Author.Tests.{lt-leb, leb-true}
use Rattle.numbers.proofs.Tests.{le_or_lt}
use Rattle.utf8.specs.Utf8.{Scalar, trailing, encoding}
use Rattle.utf8.specs.Rows.{one, two, three, four, width}
use Rattle.utf8.proofs.Encoding.{
  Sized,
  in_one,
  in_two,
  in_three,
  in_four,
  sized,
  scalar_most,
  in_row_one,
  in_row_two,
  in_row_three,
  in_row_four,
  row_is,
  three_bytes,
  four_bytes,
  Encodes,
  one_encodes,
  two_encodes,
  three_encodes,
  four_encodes,
}

-- ---- rows that a first byte is above
one_not : (a : ℕ) → 0x7F < a → one a ≡ false
unfolding one
one_not a h = lt-leb _ _ h

no : (b : Bool) → (b ≡ true → ⊥) → b ≡ false
no true h = absurd (h refl)
no false h = refl

two_not : (a b : ℕ) → 0xDF < a → two a b ≡ false
unfolding two
two_not a b h = no _ (λ e. let k = row_is e in omega arith)

three_not : (a b c : ℕ) → 0xEF < a → three a b c ≡ false
three_not a b c h = no _ (λ e. let k = three_bytes a b c e in omega arith)

-- ---- an encoding's width
pub width_of : (v : ℕ) (rest : List ℕ) → Scalar v → width (encoding v ++ rest) ≡ length (encoding v)
unfolding width
width_of v rest s = go (sized v)
  where
    go : Sized v → width (encoding v ++ rest) ≡ length (encoding v)
    go (in_one h e) = rw (e, in_row_one v h)
    go (in_two l h e) = rw (e, one_not (0xC0 + v / 64) (omega arith), in_row_two v l h)
    go (in_three l h e) = rw (e, one_not (0xE0 + v / 4096) (omega arith), two_not (0xE0 + v / 4096) (trailing (v / 64)) (omega arith), in_row_three v s l h)
    go (in_four l e) =
        rw (
          e,
          one_not (0xF0 + v / 262144) (omega arith),
          two_not (0xF0 + v / 262144) (trailing (v / 4096)) (omega arith),
          three_not (0xF0 + v / 262144) (trailing (v / 4096)) (trailing (v / 64)) (omega arith),
          in_row_four v (scalar_most v s) l,
        )

pub width_some : (v : ℕ) → 0 < length (encoding v)
width_some v = go (sized v)
  where
    go : Sized v → 0 < length (encoding v)
    go (in_one h e) = rw e (omega arith)
    go (in_two l h e) = rw e (omega arith)
    go (in_three l h e) = rw e (omega arith)
    go (in_four l e) = rw e (omega arith)

-- ---- the encoding with which bytes begin
pub record Begins (bytes : List ℕ) (w : ℕ) : Type 0 where
  pub value : ℕ
  pub scalar : Scalar value
  pub long : length (encoding value) ≡ w
  pub starts : bytes ≡ encoding value ++ drop w bytes

-- a byte that is not FF stands in the list
stands : (bytes : List ℕ) (k : ℕ) → get_or bytes k 0xFF < 0xFF → k < length bytes
stands bytes k h =
    ⊎_elim
    (λ (l : length bytes ≤ k). absurd (let e = get_or-eq_default bytes 0xFF l in omega arith))
    (λ (l : k < length bytes). l)
    (le_or_lt (length bytes) k)

module _ (bytes : List ℕ) where
  abbrev at : ℕ → ℕ
  at k = get_or bytes k 0xFF

  -- the bytes from a place on, where a byte of a row stands there
  from : (k : ℕ) → at k < 0xFF → drop k bytes ≡ at k ∷ drop (suc k) bytes
  from k h = drop-cons bytes k 0xFF (stands bytes k h)

  begins : (w : ℕ) {front : List ℕ} → Encodes front → length front ≡ w → bytes ≡ front ++ drop w bytes → Begins bytes w
  begins w k n e =
      record { value = k.value; scalar = k.scalar; long = ap length k.encoded ∙ n; starts = rw k.encoded e }

  begins_one : one (at 0) ≡ true → Begins bytes 1
  unfolding one
  begins_one e = let h = leb-true (at 0) 0x7F e in begins 1 (one_encodes (at 0) e) refl (from 0 (omega arith))

  begins_two : two (at 0) (at 1) ≡ true → Begins bytes 2
  unfolding two
  begins_two e =
      let h = row_is e in
      begins 2 (two_encodes (at 0) (at 1) e) refl (from 0 (omega arith) ∙ ap (λ (r : List ℕ). at 0 ∷ r) (from 1 (omega arith)))

  begins_three : three (at 0) (at 1) (at 2) ≡ true → Begins bytes 3
  begins_three e =
      let h = three_bytes (at 0) (at 1) (at 2) e in
      begins 3 (three_encodes (at 0) (at 1) (at 2) e) refl
      (from 0 (omega arith) ∙ ap (λ (r : List ℕ). at 0 ∷ r) (from 1 (omega arith) ∙ ap (λ (r : List ℕ). at 1 ∷ r) (from 2 (omega arith))))

  begins_four : four (at 0) (at 1) (at 2) (at 3) ≡ true → Begins bytes 4
  begins_four e =
      let h = four_bytes (at 0) (at 1) (at 2) (at 3) e in
      begins 4 (four_encodes (at 0) (at 1) (at 2) (at 3) e) refl
      (from 0 (omega arith)
      ∙ ap (λ (r : List ℕ). at 0 ∷ r)
      (from 1 (omega arith) ∙ ap (λ (r : List ℕ). at 1 ∷ r) (from 2 (omega arith) ∙ ap (λ (r : List ℕ). at 2 ∷ r) (from 3 (omega arith)))))

  pub width_begins : (width bytes ≡ 0 → ⊥) → Begins bytes (width bytes)
  unfolding width
  width_begins n =
      go (one (at 0)) (two (at 0) (at 1)) (three (at 0) (at 1) (at 2)) (four (at 0) (at 1) (at 2) (at 3)) begins_one begins_two begins_three begins_four n
    where
      go : (p q r s : Bool) → (p ≡ true → Begins bytes 1) → (q ≡ true → Begins bytes 2) → (r ≡ true → Begins bytes 3)
          → (s ≡ true → Begins bytes 4)
          → (◌≡◌ {A = ℕ} (cond p 1 (cond q 2 (cond r 3 (cond s 4 0)))) 0 → ⊥) → Begins bytes (cond p 1 (cond q 2 (cond r 3 (cond s 4 0))))
      go true q r s i j k l n = i refl
      go false true r s i j k l n = j refl
      go false false true s i j k l n = k refl
      go false false false true i j k l n = l refl
      go false false false false i j k l n = absurd (n refl)

-- ---- the width from the bytes one by one, as the code reads and tests them
module _ (bytes : List ℕ) {a : ℕ} (first : a ≡ get_or bytes 0 0xFF) where
  pub width_one : one a ≡ true → 1 ≡ width bytes
  unfolding width
  width_one p = rw (← first, p)

  module _ {b : ℕ} (second : b ≡ get_or bytes 1 0xFF) (not_one : one a ≡ false) where
    pub width_two : two a b ≡ true → 2 ≡ width bytes
    unfolding width
    width_two p = rw (← first, ← second, not_one, p)

    module _ {c : ℕ} (third : c ≡ get_or bytes 2 0xFF) (not_two : two a b ≡ false) where
      pub width_three : three a b c ≡ true → 3 ≡ width bytes
      unfolding width
      width_three p = rw (← first, ← second, ← third, not_one, not_two, p)

      module _ {d : ℕ} (fourth : d ≡ get_or bytes 3 0xFF) (not_three : three a b c ≡ false) where
        pub width_four : four a b c d ≡ true → 4 ≡ width bytes
        unfolding width
        width_four p = rw (← first, ← second, ← third, ← fourth, not_one, not_two, not_three, p)

        pub width_none : four a b c d ≡ false → 0 ≡ width bytes
        unfolding width
        width_none p = rw (← first, ← second, ← third, ← fourth, not_one, not_two, not_three, p)
