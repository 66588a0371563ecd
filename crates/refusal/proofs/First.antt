-- The first of two numbers of refusal: 0 where both are, else the one that is not.
-- By the test of the first number. Assumes nothing.
use Prim.Native.Nat.{ℕ, ◌<◌}
use native.Mathlib.Omega.{arith}
use mathlib.Core.Path.{◌≡◌, refl}
use mathlib.Core.Bool.{Bool, true, false, cond}
use borrow.Author.Tests.{eqb-true, eqb-false, ne_eqb}
use lib.Dec.{eqb}
use Rattle.refusal.specs.Refusal.{first_refusal}

pub both_zero : (a b : ℕ) → first_refusal a b ≡ 0 → (a ≡ 0) × (b ≡ 0)
unfolding first_refusal
both_zero a b h = go (eqb a 0) refl h
  where
    go : (t : Bool) → eqb a 0 ≡ t → cond t b a ≡ 0 → (a ≡ 0) × (b ≡ 0)
    go true e z = (eqb-true a 0 e, z)
    go false e z = absurd (eqb-false a 0 e z)

pub first_zero : (b : ℕ) → first_refusal 0 b ≡ b
unfolding first_refusal
first_zero b = refl

pub first_some : (a b : ℕ) → (a ≡ 0 → ⊥) → first_refusal a b ≡ a
unfolding first_refusal
first_some a b h = rw (ne_eqb a 0 h)

pub first_of_three : (a b c : ℕ) → first_refusal a (first_refusal b c) ≡ first_refusal (first_refusal a b) c
unfolding first_refusal
first_of_three a b c = go (eqb a 0) refl
  where
    go : (t : Bool) → eqb a 0 ≡ t → cond (eqb a 0) (first_refusal b c) a ≡ first_refusal (cond (eqb a 0) b a) c
    go true e = rw e
    go false e = rw (e, e)

-- a test that gives no refusal said no
pub passed : (test : Bool) (number next : ℕ) → 0 < number → cond test number next ≡ 0 → (test ≡ false) × (next ≡ 0)
passed true number next h e = absurd (omega arith)
passed false number next h e = (refl, e)
