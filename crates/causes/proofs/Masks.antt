-- The mask of the causes, by computing each of its 32 values: what the counts of bits say of the list of held causes,
-- that decoding a mask gives back the causes that made it, and that with nothing let go the triggers join the mask.
use Prim.Native.Nat.{ℕ, ◌+◌, ◌≤◌}
use native.Mathlib.Omega.{arith}
use mathlib.Core.Path.{◌≡◌, refl}
use mathlib.Core.Bool.{Bool, true, false, not, ◌&&◌, ◌||◌, beq, false≢true}
use lib.Dec.{leb, ltb, eqb}
use lib.Bits.{bit_or}
use lib.Count.{ones, ones_in, count_trailing_zeros}
use borrow.Author.Tests.{eqb-true, ne_eqb}
use Rattle.numbers.specs.All.{all_below}
use Rattle.numbers.proofs.All.{all_each}
use Rattle.numbers.proofs.Tests.{and_iff, leb_iff}
use Rattle.record.specs.declared.Record.{Record}
use Rattle.record.specs.declared.Keys.{Keys}
use Rattle.causes.specs.Causes.{Causes}
use Rattle.causes.specs.Held.{held_in, mask_of, if_held, listed, first_or, lowest, how_many}
use Rattle.causes.specs.Keeping.{released, step_10_held}

-- ---- the counts
-- x is y, and at most n
abbrev right : ℕ → ℕ → ℕ → Bool
right x y n = eqb x y && leb x n

right_is : (x y n : ℕ) → right x y n ≡ true → (x ≡ y) × (x ≤ n)
right_is x y n t = let f = (and_iff (eqb x y) (leb x n)).0 t in (eqb-true x y f.0, (leb_iff x n).0 f.1)

count_right : ℕ → Bool
count_right m = right (ones m) (how_many m) 5

lowest_right : ℕ → Bool
lowest_right m = eqb m 0 || right (count_trailing_zeros 8 m + 1) (lowest m) 5

counts_right : all_below count_right 32 ≡ true
unfolding all_below count_right ones ones_in how_many listed if_held held_in
counts_right = refl

lowests_right : all_below lowest_right 32 ≡ true
unfolding all_below lowest_right count_trailing_zeros lowest first_or listed if_held held_in
lowests_right = refl

pub count_is : (m : ℕ) → m ≤ 31 → (ones m ≡ how_many m) × (ones m ≤ 5)
unfolding count_right
count_is m h = right_is (ones m) (how_many m) 5 (all_each count_right m 32 (omega arith) counts_right)

pub lowest_is : (m : ℕ) → m ≤ 31 → (m ≡ 0 → ⊥) → (count_trailing_zeros 8 m + 1 ≡ lowest m) × (count_trailing_zeros 8 m + 1 ≤ 5)
unfolding lowest_right
lowest_is m h z =
    right_is (count_trailing_zeros 8 m + 1) (lowest m) 5 (simp (ne_eqb _ _ z) at (all_each lowest_right m 32 (omega arith) lowests_right))

pub lowest_none : lowest 0 ≡ 0
unfolding lowest first_or listed if_held held_in
lowest_none = refl

-- ---- a test that passes at all causes
abbrev both : (Bool → Bool) → Bool
both f = f true && f false

pick : (f : Bool → Bool) → both f ≡ true → (b : Bool) → f b ≡ true
pick f t true = ((and_iff (f true) (f false)).0 t).0
pick f t false = ((and_iff (f true) (f false)).0 t).1

abbrev five : Bool → Bool → Bool → Bool → Bool → Causes
five a b c d e = record { nz1 = a; nz2 = b; nz3 = c; nz4 = d; nz5 = e }

module _ (f : Causes → Bool) where
  abbrev every : Bool
  every = both (λ a. both (λ b. both (λ c. both (λ d. both (λ e. f (five a b c d e))))))

  each : every ≡ true → (x : Causes) → f x ≡ true
  each t x =
      let a = pick (λ a. both (λ b. both (λ c. both (λ d. both (λ e. f (five a b c d e)))))) t x.nz1 in
      let b = pick (λ b. both (λ c. both (λ d. both (λ e. f (five x.nz1 b c d e))))) a x.nz2 in
      let c = pick (λ c. both (λ d. both (λ e. f (five x.nz1 x.nz2 c d e)))) b x.nz3 in
      let d = pick (λ d. both (λ e. f (five x.nz1 x.nz2 x.nz3 d e))) c x.nz4 in
      pick (λ e. f (five x.nz1 x.nz2 x.nz3 x.nz4 e)) d x.nz5

-- ---- decoding
same : (a b : Bool) → beq a b ≡ true → a ≡ b
same true true t = refl
same true false t = absurd (false≢true t)
same false true t = absurd (false≢true t)
same false false t = refl

module _ (bit : Causes → Bool) where
  abbrev agrees : Causes → Bool
  agrees x = beq (bit (held_in (mask_of x))) (bit x)

  decodes : every agrees ≡ true → (x : Causes) → bit (held_in (mask_of x)) ≡ bit x
  decodes t x = same _ _ (each agrees t x)

pub held_mask : (c : Causes) → held_in (mask_of c) ≡ c
unfolding held_in mask_of
held_mask c =
    rw (
      decodes (λ x. x.nz1) refl c,
      decodes (λ x. x.nz2) refl c,
      decodes (λ x. x.nz3) refl c,
      decodes (λ x. x.nz4) refl c,
      decodes (λ x. x.nz5) refl c,
    )

-- ---- the triggers join the mask
abbrev nothing : Causes
nothing = five false false false false false

joins : ℕ → Causes → Bool
joins m t = right (bit_or m (mask_of t)) (mask_of (step_10_held (held_in m) t nothing)) 31

joins_all : all_below (λ m. every (joins m)) 32 ≡ true
unfolding all_below joins mask_of step_10_held held_in
joins_all = refl

module _ (m n : ℕ) (h : m ≤ 31) (t : Causes) (is : n ≡ mask_of t) where
  join : (bit_or m n ≡ mask_of (step_10_held (held_in m) t nothing)) × (bit_or m n ≤ 31)
  unfolding joins
  join = rw is (right_is _ _ 31 (each (joins m) (all_each (λ m. every (joins m)) m 32 (omega arith) joins_all) t))

  pub join_most : bit_or m n ≤ 31
  join_most = join.1

  pub join_is : (p : ℕ) (r : Record) (k : Keys) → k.vigilance ≡ false → bit_or m n ≡ mask_of (step_10_held (held_in m) t (released p r k))
  unfolding released
  join_is p r k e = rw e join.0

-- ---- a mask is 0 where none is held
some_right : ℕ → Bool
some_right m = beq (not (eqb m 0)) (ltb 0 (how_many m))

somes_right : all_below some_right 32 ≡ true
unfolding all_below some_right how_many listed if_held held_in
somes_right = refl

pub some_held : (m : ℕ) → m ≤ 31 → not (eqb m 0) ≡ ltb 0 (how_many m)
unfolding some_right
some_held m h = same _ _ (all_each some_right m 32 (omega arith) somes_right)
