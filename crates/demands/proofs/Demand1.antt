-- Demand 1, `demand1`, of our functions, and `demand1_exported` of the exported calls: what a refused call returns and leaves.
-- From the contracts' equations, by the laws of each definition where it refuses and by its reasons in their order. Assumes nothing.
use Prim.Native.Nat.{ℕ, ◌+◌}
use native.Mathlib.Omega.{arith}
use mathlib.Core.Path.{◌≡◌, refl, ap, ◌∙◌}
use mathlib.Core.Bool.{Bool, true, false}
use mathlib.Core.Logic.{inl, inr}
use mathlib.Core.List.{List, [], ◌∷◌, map}
use lib.ListN.{length}
use borrow.Author.Tests.{ne_eqb}
use Rattle.card.specs.declared.Card.{Card}
use Rattle.card.specs.Card.{card_in_range}
use Rattle.desk.specs.declared.Desk.{Desk}
use Rattle.desk.specs.Desk.{desk_in_range}
use Rattle.desk.specs.Calls.{open_outcome, tick_refusal, back_refusal, restart_outcome}
use Rattle.desk.proofs.Calls as Calls
use Rattle.why.specs.Why.{why_refusal}
use Rattle.why.proofs.Calls as Why
use Rattle.file.specs.Read.{read_refusal, read_outcome}
use Rattle.exercise.specs.Run.{exercise_refusal, exercise_outcome}
use Rattle.exercise.proofs.Outcome.{run_number, buffer_no}
use Rattle.demands.specs.Ranges.{zero_desk, zero_answer}
use Rattle.demands.specs.Demand1.{OneOf, Demand1}
use Rattle.demands.proofs.Functions.{functions, exported, exported_same, opens_is, ticks_is, steps_back_is, steps_back_reads, restarts_is}
use Rattle.demands.proofs.Functions.{tells_is, reads_is, runs_is, hosts_is, returning}
use Rattle.demands.proofs.Exactly.{one_of}
use Rattle.demands.proofs.Refusals.{open_first, tick_first, back_first, restart_first, why_first, read_first, exercise_first}
use Rattle.demands.proofs.Numbers.{tick_number_lem, back_number, read_number, host_refused, host_accepted}

-- ---- by the definitions
open_no : (card : Card) → ((open_outcome card).refusal ≡ 0 → ⊥)
    → ((open_outcome card).desk ≡ zero_desk) × ((open_outcome card).answer ≡ zero_answer)
unfolding open_outcome
open_no card n = go (card_in_range card) refl
  where
    go : (b : Bool) → card_in_range card ≡ b → ((open_outcome card).desk ≡ zero_desk) × ((open_outcome card).answer ≡ zero_answer)
    go true e = absurd (n (rw e))
    go false e = rw e (refl, refl)

restart_no : (d : Desk) → ((restart_outcome d).refusal ≡ 0 → ⊥) → ((restart_outcome d).desk ≡ d) × ((restart_outcome d).answer ≡ zero_answer)
unfolding restart_outcome
restart_no d n = go (desk_in_range d) refl
  where
    go : (b : Bool) → desk_in_range d ≡ b → ((restart_outcome d).desk ≡ d) × ((restart_outcome d).answer ≡ zero_answer)
    go true e = absurd (n (rw e))
    go false e = rw e (refl, refl)

read_no : (file : List ℕ) → (read_refusal file ≡ 0 → ⊥)
    → ((read_outcome file).cards ≡ 0) × ((read_outcome file).runs ≡ 0) × ((read_outcome file).ticks ≡ 0)
unfolding read_outcome
read_no file n = rw (ne_eqb _ _ n) (refl, refl, refl)

run_no : (file : List ℕ) (card room : ℕ) → (exercise_refusal file card room ≡ 0 → ⊥) → (exercise_outcome file card room).ticks ≡ 0
unfolding exercise_outcome
run_no file card room n = rw (ne_eqb _ _ n)

above : (x : ℕ) (numbers : List ℕ) → OneOf numbers x → OneOf (map (λ number. 10000 + number) numbers) (10000 + x)
unfolding OneOf
above x [] h = h
above x (number ∷ numbers) (inl e) = inl (ap (λ (y : ℕ). 10000 + y) e)
above x (number ∷ numbers) (inr h) = inr (above x numbers h)

-- ---- by the contracts
pub demand1 : Demand1 functions
demand1 = record {
  returning = returning;
  opening = λ card o f n.
      let e = opens_is card o f in
      let m = rw e at n in
      let no = open_no card m in
      rw e (record { number = one_of _ _ (open_first card) m; desk = no.0; answer = no.1 });
  tick = λ d x J o K f n.
      let e = ticks_is d x J o K f in
      let m : tick_refusal d x J ≡ 0 → ⊥ = rw (e.0, tick_number_lem) at n in
      let no = Calls.tick_no d x J m in (
        rw (e.0, no.0) (record { number = one_of _ _ (tick_first d x J) m; desk = refl; answer = refl }),
        e.1 ∙ no.1,
      );
  step_back = λ d k J o K f n.
      let e = steps_back_is d k J o K f in
      let m : back_refusal d k J ≡ 0 → ⊥ = rw (e, back_number) at n in (
        rw (e, Calls.back_no d k J m) (record { number = one_of _ _ (back_first d k J) m; desk = refl; answer = refl }),
        steps_back_reads d k J o K f,
      );
  restart = λ d o f n.
      let e = restarts_is d o f in
      let m = rw e at n in
      let no = restart_no d m in
      rw e (record { number = one_of _ _ (restart_first d) m; desk = no.0; answer = no.1 });
  why = λ d J x K f n.
      let e = tells_is d J x K f in
      let m : why_refusal d J ≡ 0 → ⊥ = rw (e.0, Why.why_number) at n in
      rw (e.0, Why.why_no d J m) (one_of _ _ (why_first d J) m, refl, e.1);
  reader = λ file c g f n.
      let e = reads_is file c g f in
      let m : read_refusal file ≡ 0 → ⊥ = rw (e.0, read_number) at n in
      let no = read_no file m in
      rw (e.0, read_number) (one_of _ _ (read_first file) m, no.0, no.1, no.2, e.1);
  exercise = λ file card B x g C f n.
      let e = runs_is file card B g C x f in
      let m : exercise_refusal file card (length B) ≡ 0 → ⊥ = rw (e.0, run_number) at n in (
        rw (e.0, run_number) (one_of _ _ (exercise_first file card B) m),
        rw e.0 (run_no file card (length B) m),
        e.1,
        e.2 ∙ buffer_no file card B m,
      );
  host = λ file card B x g C f h.
      let e = hosts_is file card B g C x f in
      let m : exercise_refusal file card (length B) ≡ 0 → ⊥ = λ z. let a = host_accepted file card (length B) z in let i = e.0 in omega arith in (
        rw (e.0, host_refused file card (length B) m) (above _ _ (one_of _ _ (exercise_first file card B) m)),
        e.1,
        e.2 ∙ buffer_no file card B m,
      );
}

pub demand1_exported : Demand1 exported
demand1_exported = rw exported_same demand1
