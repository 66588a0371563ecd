-- A test that holds at every number below a bound holds at each and below every lower one, and the other way round; and it goes by those numbers alone.
-- By induction on the bound.
use Prim.Native.Nat.{ℕ, zero, suc, ◌+◌, ◌≤◌, ◌<◌}
use native.Mathlib.Nat.{le_of_suc-le-suc, eq-or-lt_of_le}
use native.Mathlib.Numerals.{add-one}
use native.Mathlib.Omega.{arith}
use mathlib.Core.Path.{◌≡◌, refl, sym, ◌∙◌}
use mathlib.Core.Logic.{⊎_elim}
use mathlib.Core.Bool.{Bool, true, false, ◌&&◌, true≢false}
use Rattle.numbers.specs.All.{all_below}
use Rattle.numbers.proofs.Tests.{and_iff}

module _ (test : ℕ → Bool) where
  pub all_none : all_below test 0 ≡ true
  unfolding all_below
  all_none = refl

  pub all_next : (m : ℕ) → all_below test (m + 1) ≡ (all_below test m && test m)
  unfolding all_below
  all_next m = rw add-one

  pub all_more : (m : ℕ) → all_below test m ≡ true → test m ≡ true → all_below test (m + 1) ≡ true
  all_more m h k = all_next m ∙ (and_iff _ _).1 (h, k)

  pub all_fewer : (i m : ℕ) → i ≤ m → all_below test m ≡ true → all_below test i ≡ true
  unfolding all_below
  all_fewer zero zero h k = refl
  all_fewer (suc i) zero h k = absurd (omega arith)
  all_fewer i (suc m) h k =
      ⊎_elim
      (λ (e : i ≡ suc m). rw e k)
      (λ (l : i < suc m). all_fewer i m (le_of_suc-le-suc l) ((and_iff _ _).0 k).0)
      (eq-or-lt_of_le h)

  pub all_each : (i m : ℕ) → i < m → all_below test m ≡ true → test i ≡ true
  all_each i m h k = ((and_iff (all_below test i) _).0 (sym (all_next i) ∙ all_fewer (i + 1) m (omega arith) k)).1

  pub all_not : (i m : ℕ) → i < m → test i ≡ false → all_below test m ≡ false
  all_not i m h k = go (all_below test m) refl
    where
      go : (b : Bool) → all_below test m ≡ b → all_below test m ≡ false
      go true e = absurd (true≢false (sym (all_each i m h e) ∙ k))
      go false e = e

  pub each_all : (m : ℕ) → ((i : ℕ) → i < m → test i ≡ true) → all_below test m ≡ true
  unfolding all_below
  each_all zero h = refl
  each_all (suc m) h = (and_iff _ _).1 (each_all m (λ i l. h i (omega arith)), h m (omega arith))

pub all_same : (test other : ℕ → Bool) (m : ℕ) → ((i : ℕ) → i < m → test i ≡ other i) → all_below test m ≡ all_below other m
unfolding all_below
all_same test other zero h = refl
all_same test other (suc m) h = rw (all_same test other m (λ i l. h i (omega arith)), h m (omega arith))
