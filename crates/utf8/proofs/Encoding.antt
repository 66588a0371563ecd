-- Table 3-6 by the size of the value, and table 3-7 against it: what a row lists is the encoding of a scalar value, and each encoding stands in a row.
-- By the arithmetic of six bits a byte.
use Prim.Native.Nat.{ℕ, zero, suc, ◌+◌, ◌*◌, ◌-◌, ◌/◌, ◌≤◌, ◌<◌}
use native.Mathlib.Omega.{arith}
use mathlib.Core.Path.{◌≡◌, ap₂}
use mathlib.Core.Logic.Iff
use mathlib.Core.Logic.{inl, inr, ⊎_elim, ◌↔◌}
use mathlib.Core.Bool.{Bool, true, false, ◌&&◌, ◌||◌, or-true, or-false, or_assoc, false≢true}
use mathlib.Core.List.{List, [], ◌∷◌}
use lib.ListN.{get_or}
use borrow.Author.Tests.{le-leb, lt-leb}
use Rattle.numbers.proofs.Tests.{and_iff, or_iff, leb_iff, le_or_lt}
use Rattle.utf8.specs.Utf8.{Scalar, trailing, encoding}
use Rattle.utf8.specs.Rows.{is_trailing, row, any_of, one, two, three, four}

-- ---- a value by the row of table 3-6 that encodes it
pub data Sized (v : ℕ) : Type 0 where
  in_one : v ≤ 0x7F → encoding v ≡ v ∷ [] → Sized v
  in_two : 0x7F < v → v ≤ 0x7FF → encoding v ≡ (0xC0 + v / 64) ∷ trailing v ∷ [] → Sized v
  in_three : 0x7FF < v → v ≤ 0xFFFF → encoding v ≡ (0xE0 + v / 4096) ∷ trailing (v / 64) ∷ trailing v ∷ [] → Sized v
  in_four : 0xFFFF < v → encoding v ≡ (0xF0 + v / 262144) ∷ trailing (v / 4096) ∷ trailing (v / 64) ∷ trailing v ∷ [] → Sized v

pub sized : (v : ℕ) → Sized v
unfolding encoding
sized v =
    ⊎_elim
    (λ (a : v ≤ 0x7F). in_one a (rw (le-leb _ _ a)))
    (λ (a : 0x7F < v).
    ⊎_elim
    (λ (b : v ≤ 0x7FF). in_two a b (rw (lt-leb _ _ a, le-leb _ _ b)))
    (λ (b : 0x7FF < v).
    ⊎_elim
    (λ (c : v ≤ 0xFFFF). in_three b c (rw (lt-leb _ _ a, lt-leb _ _ b, le-leb _ _ c)))
    (λ (c : 0xFFFF < v). in_four c (rw (lt-leb _ _ a, lt-leb _ _ b, lt-leb _ _ c)))
    (le_or_lt v 0xFFFF))
    (le_or_lt v 0x7FF))
    (le_or_lt v 0x7F)

pub scalar_most : (v : ℕ) → Scalar v → v ≤ 0x10FFFF
scalar_most v (inl h) = omega arith
scalar_most v (inr h) = h.1

-- ---- table 3-7 as facts
pub trailing_iff : (byte : ℕ) → (is_trailing byte ≡ true) ↔ ((0x80 ≤ byte) × (byte ≤ 0xBF))
unfolding is_trailing
trailing_iff byte = simp (and_iff, leb_iff) Iff.rfl

pub record Row (first last low high a b : ℕ) : Type 0 where
  pub from : first ≤ a
  pub to : a ≤ last
  pub least : low ≤ b
  pub most : b ≤ high

pub row_is : {first last low high a b : ℕ} → row first last low high a b ≡ true → Row first last low high a b
unfolding row
row_is e = let h = simp (and_iff, leb_iff) at e in record { from = h.0.0.0; to = h.0.0.1; least = h.0.1; most = h.1 }

is_row : {first last low high a b : ℕ} → Row first last low high a b → row first last low high a b ≡ true
unfolding row
is_row h = simp (and_iff, leb_iff) (((h.from, h.to), h.least), h.most)

-- one of several rows is given by its place, and gives what each of them gives
any_at : (rows : List Bool) (k : ℕ) → get_or rows k false ≡ true → any_of rows ≡ true
unfolding any_of
any_at [] k e = e
any_at (r ∷ rows) zero e = rw e
any_at (r ∷ rows) (suc k) e = rw (any_at rows k e) (or-true r)

-- as the code writes it
pub any_of_three : (r s t : Bool) → (r || s || t) ≡ any_of (r ∷ s ∷ t ∷ [])
unfolding any_of
any_of_three r s t = simp (or_assoc, or-false)

pub any_of_four : (r s t u : Bool) → (r || s || t || u) ≡ any_of (r ∷ s ∷ t ∷ u ∷ [])
unfolding any_of
any_of_four r s t u = simp (or_assoc, or-false)

abbrev Each : Type 0 → List Bool → Type 0
Each P [] = Unit {0}
Each P (r ∷ rows) = (r ≡ true → P) × Each P rows

any_gives : {P : Type 0} (rows : List Bool) → Each P rows → any_of rows ≡ true → P
unfolding any_of
any_gives [] h e = absurd (false≢true e)
any_gives (r ∷ rows) h e = ⊎_elim h.0 (any_gives rows h.1) ((or_iff r (any_of rows)).0 e)

-- ---- each encoding stands in a row
pub in_row_one : (v : ℕ) → v ≤ 0x7F → one v ≡ true
unfolding one
in_row_one v h = le-leb _ _ h

pub in_row_two : (v : ℕ) → 0x7F < v → v ≤ 0x7FF → two (0xC0 + v / 64) (trailing v) ≡ true
unfolding two
in_row_two v l h = is_row (omega arith)

pub in_row_three : (v : ℕ) → Scalar v → 0x7FF < v → v ≤ 0xFFFF → three (0xE0 + v / 4096) (trailing (v / 64)) (trailing v) ≡ true
unfolding three
in_row_three v s l h =
    (and_iff (any_of _) (is_trailing (trailing v))).1 (
      ⊎_elim
          (λ (low : v ≤ 0xD7FF).
          ⊎_elim
          (λ (a : v ≤ 0xFFF). any_at _ 0 (is_row (omega arith)))
          (λ (a : 0xFFF < v).
          ⊎_elim (λ (b : v ≤ 0xCFFF). any_at _ 1 (is_row (omega arith))) (λ (b : 0xCFFF < v). any_at _ 2 (is_row (omega arith))) (le_or_lt v 0xCFFF))
          (le_or_lt v 0xFFF))
          (λ (high : (0xE000 ≤ v) × (v ≤ 0x10FFFF)). any_at _ 3 (is_row (omega arith)))
          s,
      (trailing_iff _).1 (omega arith),
    )

pub in_row_four : (v : ℕ) → v ≤ 0x10FFFF → 0xFFFF < v → four (0xF0 + v / 262144) (trailing (v / 4096)) (trailing (v / 64)) (trailing v) ≡ true
unfolding four
in_row_four v h l =
    (and_iff (any_of _ && is_trailing (trailing (v / 64))) (is_trailing (trailing v))).1 (
      (and_iff (any_of _) (is_trailing (trailing (v / 64)))).1 (
        ⊎_elim
            (λ (a : v ≤ 0x3FFFF). any_at _ 0 (is_row (omega arith)))
            (λ (a : 0x3FFFF < v).
            ⊎_elim (λ (b : v ≤ 0xFFFFF). any_at _ 1 (is_row (omega arith))) (λ (b : 0xFFFFF < v). any_at _ 2 (is_row (omega arith))) (le_or_lt v 0xFFFFF))
            (le_or_lt v 0x3FFFF),
        (trailing_iff _).1 (omega arith),
      ),
      (trailing_iff _).1 (omega arith),
    )

-- ---- what a row lists is an encoding
pub record Encodes (bytes : List ℕ) : Type 0 where
  pub value : ℕ
  pub scalar : Scalar value
  pub encoded : encoding value ≡ bytes

pub one_encodes : (a : ℕ) → one a ≡ true → Encodes (a ∷ [])
unfolding one encoding
one_encodes a e = let h = (leb_iff a 0x7F).0 e in record { value = a; scalar = inl (omega arith); encoded = rw e }

pub two_encodes : (a b : ℕ) → two a b ≡ true → Encodes (a ∷ b ∷ [])
unfolding two encoding
two_encodes a b e =
    let h = row_is e in
    let v : ℕ = (a - 0xC0) * 64 + (b - 0x80) in
    record {
      value = v;
      scalar = inl (omega arith);
      encoded = rw (lt-leb v 0x7F (omega arith), le-leb v 0x7FF (omega arith)) (ap₂ (λ (x y : ℕ). x ∷ y ∷ []) (omega arith) (omega arith));
    }

module _ (a b c : ℕ) where
  abbrev pub value_three : ℕ
  value_three = (a - 0xE0) * 4096 + (b - 0x80) * 64 + (c - 0x80)

  pub record OfThree : Type 0 where
    pub above : 0x7FF < value_three
    pub below : value_three ≤ 0xFFFF
    pub first : (0xE0 ≤ a) × (a ≤ 0xEF)
    pub second : (0x80 ≤ b) × (b ≤ 0xBF)
    pub third : (0x80 ≤ c) × (c ≤ 0xBF)

  of_three : OfThree → encoding value_three ≡ a ∷ b ∷ c ∷ []
  unfolding encoding
  of_three k =
      rw (lt-leb value_three 0x7F (omega arith), lt-leb value_three 0x7FF (omega arith), le-leb value_three 0xFFFF (omega arith))
      (ap₂ (λ (x : ℕ) (y : List ℕ). x ∷ y) (omega arith) (ap₂ (λ (x y : ℕ). x ∷ y ∷ []) (omega arith) (omega arith)))

  pub three_bytes : three a b c ≡ true → Scalar value_three × OfThree
  unfolding three
  three_bytes e =
      let h = (and_iff (any_of _) (is_trailing c)).0 e in
      let k = (trailing_iff c).0 h.1 in
      any_gives _ (
        λ x. let r = row_is x in (inl (omega arith), omega arith),
        (
          λ x. let r = row_is x in (inl (omega arith), omega arith),
          (
            λ x. let r = row_is x in (inl (omega arith), omega arith),
            (λ x. let r = row_is x in (inr (omega arith), omega arith), tt),
          ),
        ),
      )
      h.0

  pub three_encodes : three a b c ≡ true → Encodes (a ∷ b ∷ c ∷ [])
  three_encodes e = let k = three_bytes e in record { value = value_three; scalar = k.0; encoded = of_three k.1 }

module _ (a b c d : ℕ) where
  abbrev pub value_four : ℕ
  value_four = (a - 0xF0) * 262144 + (b - 0x80) * 4096 + (c - 0x80) * 64 + (d - 0x80)

  pub record OfFour : Type 0 where
    pub above : 0xFFFF < value_four
    pub below : value_four ≤ 0x10FFFF
    pub first : (0xF0 ≤ a) × (a ≤ 0xF4)
    pub second : (0x80 ≤ b) × (b ≤ 0xBF)
    pub third : (0x80 ≤ c) × (c ≤ 0xBF)
    pub fourth : (0x80 ≤ d) × (d ≤ 0xBF)

  of_four : OfFour → encoding value_four ≡ a ∷ b ∷ c ∷ d ∷ []
  unfolding encoding
  of_four k =
      rw (lt-leb value_four 0x7F (omega arith), lt-leb value_four 0x7FF (omega arith), lt-leb value_four 0xFFFF (omega arith))
      (ap₂ (λ (x : ℕ) (y : List ℕ). x ∷ y) (omega arith)
      (ap₂ (λ (x : ℕ) (y : List ℕ). x ∷ y) (omega arith) (ap₂ (λ (x y : ℕ). x ∷ y ∷ []) (omega arith) (omega arith))))

  pub four_bytes : four a b c d ≡ true → OfFour
  unfolding four
  four_bytes e =
      let h = (and_iff (any_of _ && is_trailing c) (is_trailing d)).0 e in
      let i = (and_iff (any_of _) (is_trailing c)).0 h.0 in
      let k = (trailing_iff c).0 i.1 in
      let l = (trailing_iff d).0 h.1 in
      any_gives _ (λ x. let r = row_is x in omega arith, (λ x. let r = row_is x in omega arith, (λ x. let r = row_is x in omega arith, tt))) i.0

  pub four_encodes : four a b c d ≡ true → Encodes (a ∷ b ∷ c ∷ d ∷ [])
  four_encodes e = let k = four_bytes e in record { value = value_four; scalar = inr (omega arith); encoded = of_four k }
