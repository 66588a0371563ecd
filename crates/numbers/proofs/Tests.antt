-- What a test of ranges says: `simp (and_iff, leb_iff, either_iff)` turns a chain of them into its facts and back.
-- By cases on the Bools. Assumes nothing.
use Prim.Native.Nat.{ℕ, ◌≤◌, ◌<◌}
use mathlib.Core.Path.{◌≡◌, refl}
use mathlib.Core.Bool.{Bool, true, false, not, ◌&&◌, ◌||◌, decide, true≢false, false≢true, or-true}
use mathlib.Core.Logic.{◌⊎◌, inl, inr, ⊎_elim, ◌↔◌}
use borrow.Author.Tests.{leb-true, leb-false, le-leb, eqb-true, eq-eqb}
use lib.Dec.{leb, eqb}

and_both : (a b : Bool) → (a && b) ≡ true → (a ≡ true) × (b ≡ true)
and_both true b h = (refl, h)
and_both false b h = absurd (false≢true h)

both_and : (a b : Bool) → (a ≡ true) × (b ≡ true) → (a && b) ≡ true
both_and true b h = h.1
both_and false b h = absurd (false≢true h.0)

pub and_iff : (a b : Bool) → ((a && b) ≡ true) ↔ ((a ≡ true) × (b ≡ true))
and_iff a b = (and_both a b, both_and a b)

pub and_false : (a : Bool) → (a && false) ≡ false
and_false true = refl
and_false false = refl

pub leb_iff : (a b : ℕ) → (leb a b ≡ true) ↔ (a ≤ b)
leb_iff a b = (leb-true a b, le-leb a b)

pub le_or_lt : (a b : ℕ) → (a ≤ b) ⊎ (b < a)
le_or_lt a b = go (leb a b) refl
  where
    go : (t : Bool) → leb a b ≡ t → (a ≤ b) ⊎ (b < a)
    go true e = inl (leb-true a b e)
    go false e = inr (leb-false a b e)

or_either : (a b : Bool) → (a || b) ≡ true → (a ≡ true) ⊎ (b ≡ true)
or_either true b h = inl refl
or_either false b h = inr h

pub or_iff : (a b : Bool) → ((a || b) ≡ true) ↔ ((a ≡ true) ⊎ (b ≡ true))
or_iff a b = (or_either a b, ⊎_elim (λ e. rw e) (λ e. rw e (or-true a)))

-- a test that says yes exactly where P holds is the decision of P
pub decided : {P : Type 0} (d : Dec P) (b : Bool) → (b ≡ true) ↔ P → b ≡ decide d
unfolding decide
decided (yes p) b h = h.1 p
decided (no n) true h = absurd (n (h.0 refl))
decided (no n) false h = refl

-- a number that is one of two
pub either_iff : (x a b : ℕ) → ((eqb x a || eqb x b) ≡ true) ↔ ((x ≡ a) ⊎ (x ≡ b))
either_iff x a b = (
  λ h. ⊎_elim (λ e. inl (eqb-true x a e)) (λ e. inr (eqb-true x b e)) ((or_iff (eqb x a) (eqb x b)).0 h),
  ⊎_elim (λ e. rw (eq-eqb x a e)) (λ e. rw (eq-eqb x b e) (or-true (eqb x a))),
)

pub not_iff : (a : Bool) → (not a ≡ true) ↔ (a ≡ false)
not_iff true = (λ e. absurd (false≢true e), λ e. absurd (true≢false e))
not_iff false = (λ e. refl, λ e. refl)

pub neither_iff : (a b : Bool) → ((a || b) ≡ false) ↔ ((a ≡ false) × (b ≡ false))
neither_iff true b = (λ e. absurd (true≢false e), λ h. h.0)
neither_iff false b = (λ e. (refl, e), λ h. h.1)
