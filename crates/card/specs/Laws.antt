-- Proved: the test of a card says that it is in range, and the other way round.
-- The test taken apart into its facts, each an order that `omega` hands on. Assumes nothing.
use Prim.Native.Nat.{ℕ}
use mathlib.Core.Path.{◌≡◌, sym, ap, ◌∙◌}
use mathlib.Core.Bool.{true}
use mathlib.Core.Logic.{◌⊎◌, inl, inr}
use denote.Struct.Props.{props}
use native.Mathlib.Omega.{arith}
use borrow.Author.Rules.{rules}
use Rattle.std.proofs.Math.Nat.{ℕ_set}
use Rattle.ranges.specs.Ranged.{RangedLaws}
use Rattle.numbers.proofs.Tests.{and_iff, leb_iff, either_iff}
use Rattle.card.specs.declared.Card.{Card}
use Rattle.card.specs.Card.{CardRanges, card_in_range, short_wait, long_wait}

pub card_ranges : (c : Card) → card_in_range c ≡ true → CardRanges c
unfolding card_in_range
card_ranges c h = let f = simp (and_iff, leb_iff, either_iff) at h in search rules

pub ranges_card : (c : Card) → CardRanges c → card_in_range c ≡ true
unfolding card_in_range
ranges_card c h = simp (and_iff, leb_iff, either_iff) (omega arith, h.wait_either)

-- the wait is not both
one_wait : (n : ℕ) → IsProp ((n ≡ short_wait) ⊎ (n ≡ long_wait))
one_wait n (inl p) (inl q) = ap inl (ℕ_set n _ p q)
one_wait n (inl p) (inr q) = let e : short_wait ≡ long_wait = sym p ∙ q in let no : ⊥ = omega arith in absurd no
one_wait n (inr p) (inl q) = let e : long_wait ≡ short_wait = sym p ∙ q in let no : ⊥ = omega arith in absurd no
one_wait n (inr p) (inr q) = ap inr (ℕ_set n _ p q)

-- each law by its own proof, so that a wrong test is told as a law that fails and not as a name that is missing
pub card_laws : RangedLaws CardRanges card_in_range
unfolding card_in_range
card_laws =
    record {
      tested = λ c h. let f = simp (and_iff, leb_iff, either_iff) at h in search rules;
      tests = λ c h. simp (and_iff, leb_iff, either_iff) (omega arith, h.wait_either);
      one_proof = λ c. Prim.hlevel (props, one_wait);
    }
