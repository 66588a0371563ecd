-- Reasons in their order: where a number is that of the first reason that holds, and no number stands twice, each is given exactly when the paper says.
-- By going along the reasons; the chains of tests in the definitions give the first. Assumes nothing.
use Prim.Native.Nat.{ℕ}
use mathlib.Core.Path.{◌≡◌, refl, sym, ◌∙◌}
use mathlib.Core.Bool.{Bool, true, false, not, ◌&&◌, cond, false≢true}
use mathlib.Core.Logic.{◌⊎◌, inl, inr, ◌↔◌}
use mathlib.Core.List.{List, [], ◌∷◌}
use lib.Dec.{eqb}
use borrow.Author.Tests.{eqb-false}
use Rattle.numbers.proofs.Tests.{and_iff, not_iff}
use Rattle.refusal.specs.Refusal.{first_refusal}
use Rattle.refusal.proofs.First.{first_zero, first_some}
use Rattle.demands.specs.Reasons.{Reasons, none, reason, ExactlyFrom, ExactlyWhen}
use Rattle.demands.specs.Demand1.{OneOf}

-- x is the number of the first reason that holds, 0 where none does
unfoldable pub First : ℕ → Reasons → Type 0
First x none = x ≡ 0
First x (reason number holds rest) = (holds × (x ≡ number)) ⊎ ((holds → ⊥) × First x rest)

abbrev pub numbers_of : Reasons → List ℕ
numbers_of none = []
numbers_of (reason number holds rest) = number ∷ numbers_of rest

-- not 0, and not one of the numbers
abbrev apart : ℕ → Reasons → Bool
apart x none = not (eqb x 0)
apart x (reason number holds rest) = not (eqb x number) && apart x rest

abbrev pub distinct : Reasons → Bool
distinct none = true
distinct (reason number holds rest) = apart number rest && distinct rest

differs : (x y : ℕ) → not (eqb x y) ≡ true → x ≡ y → ⊥
differs x y t = eqb-false x y ((not_iff (eqb x y)).0 t)

both : (a b : Bool) → (a && b) ≡ true → (a ≡ true) × (b ≡ true)
both a b t = (and_iff a b).0 t

never : (x number : ℕ) (rs : Reasons) → apart number rs ≡ true → First x rs → x ≡ number → ⊥
unfolding First
never x number none t f e = differs number 0 t (sym e ∙ f)
never x number (reason other holds rest) t (inl h) e = differs number other (both (not (eqb number other)) (apart number rest) t).0 (sym e ∙ h.1)
never x number (reason other holds rest) t (inr h) e = never x number rest (both (not (eqb number other)) (apart number rest) t).1 h.1 e

closed : (E : Type 0) (x : ℕ) (rs : Reasons) → (E → ⊥) → apart x rs ≡ true → ExactlyFrom E x rs
unfolding ExactlyFrom
closed E x none n t = (λ e. absurd (differs x 0 t e), λ e. absurd (n e))
closed E x (reason number holds rest) n t = (
  (λ e. absurd (differs x number (both (not (eqb x number)) (apart x rest) t).0 e), λ h. absurd (n h.0)),
  closed (E × (holds → ⊥)) x rest (λ h. n h.0) (both (not (eqb x number)) (apart x rest) t).1,
)

exactly_from : (E : Type 0) (x : ℕ) (rs : Reasons) → E → distinct rs ≡ true → First x rs → ExactlyFrom E x rs
unfolding First ExactlyFrom
exactly_from E x none so d f = (λ e. so, λ e. f)
exactly_from E x (reason number holds rest) so d (inl h) = (
  (λ e. (so, h.0), λ e. h.1),
  closed (E × (holds → ⊥)) x rest (λ k. k.1 h.0) (rw h.1 (both (apart number rest) (distinct rest) d).0),
)
exactly_from E x (reason number holds rest) so d (inr h) = (
  (λ e. absurd (never x number rest (both (apart number rest) (distinct rest) d).0 h.1 e), λ k. absurd (h.0 k.1)),
  exactly_from (E × (holds → ⊥)) x rest (so, h.0) (both (apart number rest) (distinct rest) d).1 h.1,
)

pub exactly : (x : ℕ) (rs : Reasons) → distinct rs ≡ true → First x rs → ExactlyWhen x rs
exactly x rs d f = exactly_from Unit x rs tt d f

pub one_of : (x : ℕ) (rs : Reasons) → First x rs → (x ≡ 0 → ⊥) → OneOf (numbers_of rs) x
unfolding First OneOf
one_of x none f n = n f
one_of x (reason number holds rest) (inl h) n = inl h.1
one_of x (reason number holds rest) (inr h) n = inr (one_of x rest h.1 n)

-- ---- the first reason of a chain of tests
pub not_test : {P : Type 0} (b : Bool) → (b ≡ true) ↔ P → (not b ≡ true) ↔ (P → ⊥)
not_test true h = (λ e. absurd (false≢true e), λ n. absurd (n (h.0 refl)))
not_test false h = (λ e p. false≢true (h.1 p), λ n. refl)

pub if_so : {P : Type 0} (b : Bool) (number x : ℕ) (rest : Reasons) → (b ≡ true) ↔ P → First x rest → First (cond b number x) (reason number P rest)
unfolding First
if_so true number x rest h f = inl (h.0 refl, refl)
if_so false number x rest h f = inr (λ p. false≢true (h.1 p), f)

pub if_not : {P : Type 0} (b : Bool) (number x : ℕ) (rest : Reasons) → (b ≡ true) ↔ P → First x rest
    → First (cond (not b) number x) (reason number (P → ⊥) rest)
if_not b number x rest h f = if_so (not b) number x rest (not_test b h) f

-- one reason alone, given where a test fails
pub unless : {P : Type 0} (b : Bool) (number : ℕ) → (b ≡ true) ↔ P → First (cond b 0 number) (reason number (P → ⊥) none)
unfolding First
unless true number h = inr (λ n. n (h.0 refl), refl)
unless false number h = inl (λ p. false≢true (h.1 p), refl)

-- first these, then those
abbrev pub then : Reasons → Reasons → Reasons
then none ss = ss
then (reason number holds rest) ss = reason number holds (then rest ss)

abbrev pub some : Reasons → Bool
some none = true
some (reason number holds rest) = not (eqb number 0) && some rest

pub first_then : (a b : ℕ) (rs ss : Reasons) → some rs ≡ true → First a rs → First b ss → First (first_refusal a b) (then rs ss)
unfolding First
first_then a b none ss t f g = rw (f, first_zero) g
first_then a b (reason number holds rest) ss t (inl h) g =
    inl (h.0, first_some a b (λ z. differs number 0 (both (not (eqb number 0)) (some rest) t).0 (sym h.1 ∙ z)) ∙ h.1)
first_then a b (reason number holds rest) ss t (inr h) g = inr (h.0, first_then a b rest ss (both (not (eqb number 0)) (some rest) t).1 h.1 g)
