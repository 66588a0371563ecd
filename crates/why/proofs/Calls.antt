-- Laws of the call: what an accepted one says of desk and journal, what its pass over the records comes to, and what is returned then and else.
-- A chain of refusals that comes to 0 passed every test; then the desk is the one that the records rebuild.
use Prim.Native.Nat.{ℕ}
use native.Mathlib.Decide.{ℕ_discrete}
use native.Mathlib.Omega.{arith}
use Rattle.std.proofs.Common.{Ok, Err}
use mathlib.Core.Path.{◌≡◌, refl, sym, ap, ◌∙◌}
use mathlib.Core.Bool.{Bool, true, false, not, cond, decide, decide_iff}
use mathlib.Core.List.{List}
use lib.Dec.{eqb}
use lib.ListN.{length}
use borrow.Author.Tests.{eqb-false, eq-eqb, ne_eqb, not-false}
use Rattle.refusal.specs.Refusal.{bad_record, valve_closed, other_desk, first_refusal}
use Rattle.refusal.specs.declared.Refusal.{Refusal}
use Rattle.refusal.specs.declared.Refusal.TheVariants.{BadRecord}
use Rattle.refusal.specs.Number.{number}
use Rattle.refusal.proofs.First.{both_zero, first_some, first_zero, passed}
use Rattle.refusal.proofs.Number.{number_some}
use Rattle.causes.specs.Held.{held_in}
use Rattle.causes.specs.Cause.{Cause, NZ1, NZ2, NZ3, NZ4, NZ5, among}
use Rattle.journal.specs.Journal.{records, all_in_range}
use Rattle.desk.specs.declared.Desk.{Desk}
use Rattle.desk.specs.Calls.{desk_refusal}
use Rattle.desk.proofs.Calls.{DeskTaken, desk_taken, taken_desk}
use Rattle.same.proofs.Desks.{same_desk?}
use Rattle.why.specs.declared.Reasons.{Reasons}
use Rattle.why.specs.declared.Told.{Told}
use Rattle.why.specs.Why.{refused, held_after, began, rebuilt, rebuilt_refusal, reason_of, reason_for, all_reasons, why_refusal, why_outcome}
use Rattle.why.specs.Told.{starts_after, all_told, retold, retold_refusal, start_of, StartFits, reasons_of}
use Rattle.why.proofs.Began.{began_then}

pub record WhyTaken (desk : Desk) (journal : List ℕ) : Type 0 where
  pub fit : DeskTaken desk (length journal)
  pub good : all_in_range journal desk.n ≡ true
  pub same : desk ≡ rebuilt desk journal
  pub held : desk.state.causes ≡ 0 → ⊥

module _ (d : Desk) (J : List ℕ) where
  pub why_taken : why_refusal d J ≡ 0 → WhyTaken d J
  unfolding why_refusal rebuilt_refusal
  why_taken e =
      let both = both_zero (desk_refusal d (length J)) _ e in
      let nine = passed (not (all_in_range J d.n)) bad_record _ (omega arith) both.1 in
      let other = passed (not (decide (same_desk? d (rebuilt d J)))) other_desk _ (omega arith) nine.1 in
      let closed = passed (eqb d.state.causes 0) valve_closed 0 (omega arith) other.1 in
      record {
        fit = desk_taken d (length J) both.0;
        good = not-false _ nine.0;
        same = (decide_iff (same_desk? d (rebuilt d J))).0 (not-false _ other.0);
        held = eqb-false _ _ closed.0;
      }

  pub taken_why : WhyTaken d J → why_refusal d J ≡ 0
  unfolding why_refusal rebuilt_refusal
  taken_why t =
      let same = (decide_iff (same_desk? d (rebuilt d J))).1 t.same in
      rw (taken_desk d (length J) t.fit, first_zero, t.good, same, ne_eqb _ _ t.held)

  -- ---- what the pass comes to
  told_is : (told : Told) → Ok told ≡ retold d.card J d.n → (all_in_range J d.n ≡ true) × (told ≡ all_told d.card J d.n)
  unfolding retold
  told_is told e = go (all_in_range J d.n) refl e
    where
      go : (good : Bool) → all_in_range J d.n ≡ good → Ok told ≡ cond good (Ok (all_told d.card J d.n)) (Err BadRecord)
          → (all_in_range J d.n ≡ true) × (told ≡ all_told d.card J d.n)
      go true g e = (g, cc)
      go false g e = cc

  -- ---- the first of the refusals: the desk's, then a record out of range, then those of the desk that the records rebuild
  pub why_first : (r : Refusal) → number r ≡ desk_refusal d (length J) → number r ≡ why_refusal d J
  unfolding why_refusal
  why_first r e = e ∙ sym (first_some _ _ (λ z. number_some r (e ∙ z)))

  -- `fit` is the desk as it came in range
  module _ (fit : Desk) (none : 0 ≡ desk_refusal d (length J)) (is : fit ≡ d) where
    pub why_unread : (r : Refusal) → Err r ≡ retold fit.card J d.n → number r ≡ why_refusal d J
    unfolding retold why_refusal number
    why_unread r e = go (all_in_range J d.n) refl (rw is at e)
      where
        go : (good : Bool) → all_in_range J d.n ≡ good → Err r ≡ cond good (Ok (all_told d.card J d.n)) (Err BadRecord)
            → number r ≡ first_refusal (desk_refusal d (length J)) (cond (not (all_in_range J d.n)) bad_record (rebuilt_refusal d (rebuilt d J)))
        go true g e = cc
        go false g e = let bad : r ≡ BadRecord = cc in rw (bad, ← none, first_zero, g)

    module _ (told : Told) (read : Ok told ≡ retold fit.card J d.n) where
      abbrev again : Ok told ≡ retold d.card J d.n
      again = rw is at read

      pub why_rebuilt : (number : ℕ) → number ≡ retold_refusal d told → number ≡ why_refusal d J
      unfolding why_refusal retold_refusal
      why_rebuilt number e =
          let t = told_is told again in
          let r = e ∙ ap (retold_refusal d) t.1 in
          rw (← none, first_zero, t.0) r

  module _ (taken : WhyTaken d J) where
    start_is : (cause : Cause) → start_of cause (starts_after d.card J d.n) ≡ began d.card (records J) cause d.n
    unfolding start_of starts_after
    start_is NZ1 = refl
    start_is NZ2 = refl
    start_is NZ3 = refl
    start_is NZ4 = refl
    start_is NZ5 = refl

    pub held_is : (cause : Cause) → among cause (held_in d.state.causes) ≡ held_after d.card (records J) cause d.n
    held_is cause = ap (λ (x : Desk). among cause (held_in x.state.causes)) taken.same

    -- what `reasons_of` asks: a held cause has a start, and its record lies in the journal
    pub start_fits : (cause : Cause) → among cause (held_in d.state.causes) ≡ true
        → StartFits (start_of cause (starts_after d.card J d.n)) (length J)
    start_fits cause held =
        let b = began_then d.card (records J) cause d.n (sym (held_is cause) ∙ held) in
        let last = b.last in
        let long = taken.fit.long in
        rw (start_is cause) (record { first = b.first; last = omega arith })

    reason_is : (cause : Cause)
        → reason_of (records J) (among cause (held_in d.state.causes)) (start_of cause (starts_after d.card J d.n)) ≡ reason_for d J cause
    reason_is cause = rw (held_is cause, start_is cause)

    pub reasons_are : reasons_of (records J) (held_in d.state.causes) (starts_after d.card J d.n) ≡ all_reasons d J
    unfolding reasons_of start_of among
    reasons_are = rw (reason_is NZ1, reason_is NZ2, reason_is NZ3, reason_is NZ4, reason_is NZ5)

  -- by what was told of the records, as the code comes by it
  module _ (fit : Desk) (none : 0 ≡ desk_refusal d (length J)) (is : fit ≡ d) (told : Told) (read : Ok told ≡ retold fit.card J d.n)
      (rebuilt : 0 ≡ retold_refusal d told) where
    fully : WhyTaken d J
    fully = why_taken (sym (why_rebuilt fit none is told read 0 rebuilt))

    starts_are : told.starts ≡ starts_after d.card J d.n
    starts_are = ap (λ (x : Told). x.starts) (told_is told (again fit none is told read)).1

    pub told_fits : (cause : Cause) → among cause (held_in d.state.causes) ≡ true → StartFits (start_of cause told.starts) (length J)
    told_fits cause held = rw starts_are (start_fits fully cause held)

    pub told_reasons : reasons_of (records J) (held_in d.state.causes) told.starts ≡ all_reasons d J
    told_reasons = rw starts_are (reasons_are fully)

  -- ---- what is returned
  pub why_no : (why_refusal d J ≡ 0 → ⊥) → why_outcome d J ≡ refused (why_refusal d J)
  unfolding why_outcome
  why_no h = rw (ne_eqb _ _ h)

  pub why_yes : why_refusal d J ≡ 0 → why_outcome d J ≡ all_reasons d J
  unfolding why_outcome
  why_yes e = rw (eq-eqb _ _ e)

  pub why_number : (why_outcome d J).refusal ≡ why_refusal d J
  why_number = go (ℕ_discrete (why_refusal d J) 0)
    where
      go : Dec (why_refusal d J ≡ 0) → (why_outcome d J).refusal ≡ why_refusal d J
      go (yes e) = ap (λ (x : Reasons). x.refusal) (why_yes e) ∙ sym e
      go (no n) = ap (λ (x : Reasons). x.refusal) (why_no n)

  -- as the code comes by them
  pub why_refused : (r : Refusal) → number r ≡ why_refusal d J → refused (number r) ≡ why_outcome d J
  why_refused r e = ap refused e ∙ sym (why_no (λ z. number_some r (e ∙ z)))

  pub why_accepted : (reasons : Reasons) → 0 ≡ why_refusal d J → reasons ≡ all_reasons d J → reasons ≡ why_outcome d J
  why_accepted reasons e is = is ∙ sym (why_yes (sym e))

pub ruleset of_why = (why_first, why_unread, why_rebuilt)
