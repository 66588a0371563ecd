-- Of the numbers of refusals: none is 0, each is that of one refusal, and how they go through `first_refusal`.
-- By cases on the refusal and by the laws of `first_refusal`. Assumes nothing.
use Prim.Native.Nat.{ℕ, ◌≤◌}
use native.Mathlib.Omega.{arith}
use mathlib.Core.Path.{◌≡◌, refl, sym, ap, ◌∙◌}
use mathlib.Core.Bool.{Bool, true, false, cond}
use Rattle.std.proofs.Common.{Result, Ok, Err, IfOk, Option, None, Some, MatchOption}
use Rattle.std.specs.Result.{IsErrAnd, result_unwrap_or}
use Rattle.std.specs.Option.{ok_or}
use lib.ListN.{get_or}
use mathlib.Core.List.{List, [], ◌∷◌}
use Rattle.refusal.specs.Refusal.{first_refusal}
use Rattle.refusal.specs.Number.{number, number_of, value_of}
use Rattle.refusal.specs.declared.Refusal.{Refusal}
use Rattle.refusal.specs.declared.Refusal.TheVariants.{BadSpeed, BadPressure, BadField, BadCard, BadDesk, ShortJournal, FullJournal, BackTooFar, BadRecord}
use Rattle.refusal.specs.declared.Refusal.TheVariants.{BadFile, BadTicks, ShortBuffer, NoSuchCard, ValveClosed, BadTable, NoSuchMessage, NoSuchLanguage, OtherDesk}
use Rattle.refusal.proofs.First.{first_some, first_zero}

pub number_least : (r : Refusal) → 1 ≤ number r
unfolding number
number_least BadSpeed = omega arith
number_least BadPressure = omega arith
number_least BadField = omega arith
number_least BadCard = omega arith
number_least BadDesk = omega arith
number_least ShortJournal = omega arith
number_least FullJournal = omega arith
number_least BackTooFar = omega arith
number_least BadRecord = omega arith
number_least BadFile = omega arith
number_least BadTicks = omega arith
number_least ShortBuffer = omega arith
number_least NoSuchCard = omega arith
number_least ValveClosed = omega arith
number_least BadTable = omega arith
number_least NoSuchMessage = omega arith
number_least NoSuchLanguage = omega arith
number_least OtherDesk = omega arith

pub number_some : (r : Refusal) → number r ≡ 0 → ⊥
number_some r e = omega (arith, number_least r)

-- a number names its refusal: the refusal at that place of a list of them
refusals : List Refusal
refusals =
    BadSpeed ∷ BadSpeed ∷ BadPressure ∷ BadField ∷ BadCard ∷ BadDesk ∷ ShortJournal ∷ FullJournal ∷ BackTooFar ∷ BadRecord
    ∷ BadFile ∷ BadTicks ∷ ShortBuffer ∷ NoSuchCard ∷ ValveClosed ∷ BadTable ∷ NoSuchMessage ∷ NoSuchLanguage ∷ []

named : ℕ → Refusal
named n = get_or refusals n OtherDesk

by_name : (r : Refusal) → named (number r) ≡ r
unfolding number named refusals
by_name BadSpeed = refl
by_name BadPressure = refl
by_name BadField = refl
by_name BadCard = refl
by_name BadDesk = refl
by_name ShortJournal = refl
by_name FullJournal = refl
by_name BackTooFar = refl
by_name BadRecord = refl
by_name BadFile = refl
by_name BadTicks = refl
by_name ShortBuffer = refl
by_name NoSuchCard = refl
by_name ValveClosed = refl
by_name BadTable = refl
by_name NoSuchMessage = refl
by_name NoSuchLanguage = refl
by_name OtherDesk = refl

pub number_same : (r s : Refusal) → number r ≡ number s → r ≡ s
number_same r s e = sym (by_name r) ∙ ap named e ∙ by_name s

-- ---- the number of a result
pub number_of_ok : {A : Type 0} (x : A) → number_of {A = A} (Ok x) ≡ 0
unfolding number_of
number_of_ok x = refl

pub number_of_err : (A : Type 0) (r : Refusal) → number_of {A = A} (Err r) ≡ number r
unfolding number_of
number_of_err A r = refl

-- ---- through `first_refusal`: a refusal goes first, and where there is none the second number is left
pub first_err : (a b : ℕ) (r : Refusal) → number r ≡ a → first_refusal a b ≡ a
first_err a b r e = first_some a b (λ z. number_some r (e ∙ z))

pub first_ok : (a b : ℕ) → a ≡ 0 → first_refusal a b ≡ b
first_ok a b e = rw e (first_zero b)

pub first_number : (r : Refusal) (b : ℕ) → first_refusal (number r) b ≡ number r
first_number r b = first_err (number r) b r refl

-- what a `?` passes on
pub passed_on : {A : Type 0} (r : Result A Refusal) (e : Refusal) → IsErrAnd r (λ x. x ≡ e) → number_of r ≡ number e
unfolding number_of
passed_on (Ok x) e h = absurd h
passed_on (Err f) e h = ap number h

-- what `ok_or` makes of an option that is empty where a test says no
module _ {I : Type 0} (e : Refusal) where
  pub or_number : (test : Bool) (P : I → Type 0) (o : Option I) → MatchOption o (test ≡ false) P → ((i : I) → P i → test ≡ true)
      → (r : Result I Refusal) → r ≡ ok_or o e → number_of r ≡ cond test 0 (number e)
  unfolding number_of
  or_number test P None h k r is = rw (is, h)
  or_number test P (Some i) h k r is = rw (is, k i h)

  pub or_value : (Q : Type 0) (P : I → Type 0) (o : Option I) → MatchOption o Q P → (r : Result I Refusal) → r ≡ ok_or o e → IfOk r P
  or_value Q P None h r is = rw is tt
  or_value Q P (Some i) h r is = rw is h

-- a value, or else the one given
pub or_none : {A : Type 0} (none : A) (r : Result A Refusal) → result_unwrap_or r none ≡ value_of none r
unfolding value_of
or_none none (Ok x) = refl
or_none none (Err e) = refl
