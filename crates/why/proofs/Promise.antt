-- The promise, `promise`, kept by whatever the call's contract lets it return.
-- An accepted call gives for a held cause the tick of Began.antt; a refused one gives zeros.
use Prim.Native.Nat.{ℕ}
use mathlib.Core.Path.{◌≡◌, refl, sym, ap, ◌∙◌}
use mathlib.Core.Bool.{Bool, true, false}
use mathlib.Core.List.{List}
use native.Mathlib.Decide.{ℕ_discrete}
use native.Mathlib.Omega.{arith}
use contract.Lifetimes.{Lfts}
use Rattle.causes.specs.Cause.{Cause, NZ1, NZ2, NZ3, NZ4, NZ5}
use Rattle.journal.specs.Journal.{records}
use Rattle.desk.specs.declared.Desk.{Desk}
use Rattle.why.specs.declared.Reason.{Reason}
use Rattle.why.specs.Why.{no_reason, refused, reason_of, reason_for, held_after, all_reasons, why_refusal, why_outcome}
use Rattle.why.specs.Promise.{given, Right, Promise}
use Rattle.why.proofs.Began.{began_then, began_once}
use Rattle.why.proofs.Calls.{why_taken, held_is, why_yes, why_no, why_number}
use Rattle.why.proofs.why.Reads as telling

given_none : (cause : Cause) (number : ℕ) → given cause (refused number) ≡ no_reason
unfolding given
given_none NZ1 number = refl
given_none NZ2 number = refl
given_none NZ3 number = refl
given_none NZ4 number = refl
given_none NZ5 number = refl

module _ (d : Desk) (J : List ℕ) where
  given_each : (cause : Cause) → given cause (all_reasons d J) ≡ reason_for d J cause
  unfolding given
  given_each NZ1 = refl
  given_each NZ2 = refl
  given_each NZ3 = refl
  given_each NZ4 = refl
  given_each NZ5 = refl

  given_is : (cause : Cause) → why_refusal d J ≡ 0 → given cause (why_outcome d J) ≡ reason_for d J cause
  given_is cause e = ap (given cause) (why_yes d J e) ∙ given_each cause

  -- a cause that is held after the last tick, and one that is not
  right : (cause : Cause) → held_after d.card (records J) cause d.n ≡ true → Right d J cause (reason_for d J cause)
  unfolding reason_of
  right cause held =
      let b = began_then d.card (records J) cause d.n held in
      rw held (record { began = b; no_other = λ tick c. began_once d.card (records J) cause d.n tick _ c b; reading = refl })

  free : (cause : Cause) → held_after d.card (records J) cause d.n ≡ false → reason_for d J cause ≡ no_reason
  unfolding reason_of
  free cause held = rw held

  -- where it gives a tick the cause is held
  by_tick : (cause : Cause) (held : Bool) → held_after d.card (records J) cause d.n ≡ held → ((reason_for d J cause).tick ≡ 0 → ⊥)
      → Right d J cause (reason_for d J cause)
  by_tick cause true e n = right cause e
  by_tick cause false e n = absurd (n (ap (λ (x : Reason). x.tick) (free cause e)))

  accepted : why_refusal d J ≡ 0 → Promise d J (why_outcome d J)
  accepted e =
      let taken = why_taken d J e in record {
        right = λ cause n. rw (given_is cause e) (by_tick cause _ refl (rw (given_is cause e) at n));
        always = λ z cause held. rw (given_is cause e)
            (λ none. let first = (right cause (sym (held_is d J taken cause) ∙ held)).began.first in omega arith);
        not_held = λ cause held. given_is cause e ∙ free cause (sym (held_is d J taken cause) ∙ held);
        refused = λ n. absurd (n (why_number d J ∙ e));
      }

pub promised : (d : Desk) (J : List ℕ) → Promise d J (why_outcome d J)
promised d J = go (ℕ_discrete (why_refusal d J) 0)
  where
    go : Dec (why_refusal d J ≡ 0) → Promise d J (why_outcome d J)
    go (yes e) = accepted d J e
    go (no n) = rw (why_no d J n) (record {
      right = λ cause h. absurd (h (ap (λ (x : Reason). x.tick) (given_none cause _)));
      always = λ z. absurd (n z);
      not_held = λ cause h. given_none cause _;
      refused = λ m cause. given_none cause _;
    })

-- `a.0` is the desk, `a.1.0` the journal
pub promise : (κs : Lfts 1) (a : _) (x : _) (s : _) → telling.Post κs a x s → Promise a.0 a.1.0.now x
promise κs a x s post = rw post (promised a.0 a.1.0.now)
