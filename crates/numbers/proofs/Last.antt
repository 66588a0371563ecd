-- The last number from 1 to n that passes a test, by one number more; and that it goes by the test up to n alone.
-- By the definition, and by induction on n.
use Prim.Native.Nat.{ℕ, zero, suc, ◌+◌, ◌≤◌}
use native.Mathlib.Nat.{le_refl}
use native.Mathlib.Numerals.{add-one}
use native.Mathlib.Omega.{arith}
use mathlib.Core.Path.{◌≡◌, refl}
use mathlib.Core.Bool.{Bool, cond}
use Rattle.numbers.specs.Last.{last_of}

pub last_next : (test : ℕ → Bool) (n : ℕ) → last_of test (n + 1) ≡ cond (test (n + 1)) (n + 1) (last_of test n)
unfolding last_of
last_next test n = rw add-one

pub last_same : (test other : ℕ → Bool) (n : ℕ) → ((i : ℕ) → i ≤ n → test i ≡ other i) → last_of test n ≡ last_of other n
unfolding last_of
last_same test other zero h = refl
last_same test other (suc n) h = rw (h (suc n) (le_refl (suc n)), last_same test other n (λ i l. h i (omega arith)))
