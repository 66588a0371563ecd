-- What the call answers: why it refuses; where nothing is refused, a message of a good table; else nothing.
-- In any case it is a part that lies in its table and is UTF-8.
-- By the reasons of the refusals, one after the other.
use Prim.Native.Nat.{ℕ, ◌+◌, ◌≤◌, ◌<◌}
use native.Mathlib.Omega.{arith}
use mathlib.Core.Path.{◌≡◌, refl, sym, ◌∙◌}
use mathlib.Core.Logic.{◌⊎◌}
use mathlib.Core.Bool.{Bool, true, false, not, ◌||◌, cond, true≢false}
use mathlib.Core.List.{List}
use lib.Dec.{leb, eqb}
use lib.ListN.{length}
use lib.Seq.{slice}
use borrow.Author.Tests.{eqb-true, eqb-false, leb-true, leb-false}
use Rattle.numbers.proofs.Tests.{either_iff}
use Rattle.refusal.specs.Refusal.{bad_table, no_such_message, no_such_language}
use Rattle.utf8.specs.Utf8.{Utf8}
use Rattle.utf8.proofs.Utf8.{utf8_nil}
use Rattle.texts.specs.Table.{count, message, table_good}
use Rattle.texts.specs.Text.{text_refusal, text_place}
use Rattle.texts.specs.declared.Place.{Place}
use Rattle.texts.proofs.Good.{Good, table_good_lem, good_table, offset_most}

-- ---- why a call is refused, in the request's words and numbers; the four shut each other out
pub data Reason (table : List ℕ) (language number refusal : ℕ) : Type 0 where
  no_language : refusal ≡ 17 → ((language ≡ 1) ⊎ (language ≡ 2) → ⊥) → Reason table language number refusal
  bad_table_lem : refusal ≡ 15 → (language ≡ 1) ⊎ (language ≡ 2) → (Good table → ⊥) → Reason table language number refusal
  no_message : refusal ≡ 16 → (language ≡ 1) ⊎ (language ≡ 2) → Good table → count table ≤ number → Reason table language number refusal
  accepted : refusal ≡ 0 → (language ≡ 1) ⊎ (language ≡ 2) → Good table → number < count table → Reason table language number refusal

-- ---- what an answer's place is in its table
pub record Answer (table : List ℕ) (language number : ℕ) (place : Place) : Type 0 where
  pub reason : Reason table language number place.refusal
  pub rising : place.start ≤ place.end
  pub most : place.end ≤ length table
  pub utf8 : Utf8 (slice place.start place.end table)
  pub accepted : place.refusal ≡ 0 → slice place.start place.end table ≡ message table number
  pub refused : (place.refusal ≡ 0 → ⊥) → (place.start ≡ 0) × (place.end ≡ 0)

module _ (table : List ℕ) (language number : ℕ) where
  -- by its three tests
  pub refusal_by : {unspoken bad beyond : Bool} → not (eqb language 1 || eqb language 2) ≡ unspoken → not (table_good table) ≡ bad
      → leb (count table) number ≡ beyond
      → text_refusal table language number ≡ cond unspoken no_such_language (cond bad bad_table (cond beyond no_such_message 0))
  unfolding text_refusal
  refusal_by d e f = rw (d, e, f)

  why : Reason table language number (text_refusal table language number)
  why = rw (refusal_by refl refl refl) (go (eqb language 1 || eqb language 2) (table_good table) (leb (count table) number) refl refl refl)
    where
      go : (k g l : Bool) → (eqb language 1 || eqb language 2) ≡ k → table_good table ≡ g → leb (count table) number ≡ l
          → Reason table language number (cond (not k) no_such_language (cond (not g) bad_table (cond l no_such_message 0)))
      go false g l d e f = no_language refl (λ spoken. true≢false (sym ((either_iff language 1 2).1 spoken) ∙ d))
      go true false l d e f = bad_table_lem refl ((either_iff language 1 2).0 d) (λ good. true≢false (sym (good_table table good) ∙ e))
      go true true true d e f = no_message refl ((either_iff language 1 2).0 d) (table_good_lem table e) (leb-true _ _ f)
      go true true false d e f = accepted refl ((either_iff language 1 2).0 d) (table_good_lem table e) (leb-false _ _ f)

  record Told : Type 0 where
    good : Good table
    there : number < count table

  told : text_refusal table language number ≡ 0 → Told
  told z = go why
    where
      go : Reason table language number (text_refusal table language number) → Told
      go (no_language e _) = absurd (omega arith)
      go (bad_table_lem e _ _) = absurd (omega arith)
      go (no_message e _ _ _) = absurd (omega arith)
      go (accepted e _ good there) = record { good = good; there = there }

  pub answer : Answer table language number (text_place table language number)
  unfolding text_place
  answer = go (eqb (text_refusal table language number) 0) refl
    where
      go : (z : Bool) → eqb (text_refusal table language number) 0 ≡ z → Answer table language number (text_place table language number)
      go true e =
          let zero = eqb-true _ 0 e in
          let t = told zero in
          let m = t.good.each number t.there in
          let most = offset_most table t.good (number + 1) (omega arith) in
          rw e (record {
            reason = rw zero at why;
            rising = m.rising;
            most = most;
            utf8 = m.utf8;
            accepted = λ _. refl;
            refused = λ n. absurd (n refl);
          })
      go false e =
          let n = eqb-false _ 0 e in
          let least : (m : ℕ) → 0 ≤ m = λ m. omega arith in
          rw e (record {
            reason = why;
            rising = least 0;
            most = least (length table);
            utf8 = utf8_nil;
            accepted = λ z. absurd (n z);
            refused = λ _. (refl, refl);
          })
