-- The number that each definition works out is the one that its call returns; and what is above 10,000 of the host's number.
-- By whether it is 0. Assumes nothing.
use Prim.Native.Nat.{ℕ, zero, suc, ◌+◌, ◌-◌, ◌≤◌}
use native.Mathlib.Omega.{arith}
use native.Mathlib.Decide.{ℕ_discrete}
use mathlib.Core.Path.{◌≡◌, sym, ap, ◌∙◌}
use mathlib.Core.List.{List}
use borrow.Author.Tests.{eq-eqb, ne_eqb}
use Rattle.record.specs.declared.Sample.{Sample}
use Rattle.desk.specs.declared.Desk.{Desk}
use Rattle.desk.specs.declared.Outcome.{Outcome}
use Rattle.desk.specs.Calls.{tick_refusal, tick_outcome, back_refusal, back_outcome}
use Rattle.desk.proofs.Calls as Calls
use Rattle.file.specs.File.{run_count}
use Rattle.file.specs.Runs.{ticks_to, runs_refusal}
use Rattle.file.specs.Read.{tick_count, read_refusal, read_outcome}
use Rattle.file.proofs.Runs.{runs_each}
use Rattle.exercise.specs.Run.{exercise_refusal, exercise_outcome}
use Rattle.exercise.proofs.Outcome.{run_taken}
use Rattle.foldharbor_exercise.specs.Exercise.{host_number}

pub tick_number_lem : (d : Desk) (x : Sample) (journal : List ℕ) → (tick_outcome d x journal).refusal ≡ tick_refusal d x journal
tick_number_lem d x journal = go (ℕ_discrete (tick_refusal d x journal) 0)
  where
    go : Dec (tick_refusal d x journal ≡ 0) → (tick_outcome d x journal).refusal ≡ tick_refusal d x journal
    go (yes e) = ap (λ (o : Outcome). o.refusal) (Calls.tick_yes d x journal e).0 ∙ sym e
    go (no n) = ap (λ (o : Outcome). o.refusal) (Calls.tick_no d x journal n).0

pub back_number : (d : Desk) (k : ℕ) (journal : List ℕ) → (back_outcome d k journal).refusal ≡ back_refusal d k journal
back_number d k journal = go (ℕ_discrete (back_refusal d k journal) 0)
  where
    go : Dec (back_refusal d k journal ≡ 0) → (back_outcome d k journal).refusal ≡ back_refusal d k journal
    go (yes e) = ap (λ (o : Outcome). o.refusal) (Calls.back_yes d k journal e) ∙ sym e
    go (no n) = ap (λ (o : Outcome). o.refusal) (Calls.back_no d k journal n)

pub read_number : (file : List ℕ) → (read_outcome file).refusal ≡ read_refusal file
unfolding read_outcome
read_number file = go (ℕ_discrete (read_refusal file) 0)
  where
    go : Dec (read_refusal file ≡ 0) → (read_outcome file).refusal ≡ read_refusal file
    go (yes e) = rw (eq-eqb _ _ e) (sym e)
    go (no n) = rw (ne_eqb _ _ n)

-- ---- the host call
ticks_most : (file : List ℕ) (m : ℕ) → runs_refusal file m ≡ 0 → ticks_to file m ≤ 7200
unfolding ticks_to
ticks_most file zero e = omega arith
ticks_most file (suc j) e = (runs_each file j (suc j) (omega arith) e).fits

module _ (file : List ℕ) (card room : ℕ) where
  pub host_refused : (exercise_refusal file card room ≡ 0 → ⊥)
      → host_number (exercise_outcome file card room) ≡ 10000 + exercise_refusal file card room
  unfolding host_number exercise_outcome
  host_refused n = rw (ne_eqb _ _ n, ne_eqb _ _ n)

  pub host_accepted : exercise_refusal file card room ≡ 0
      → (host_number (exercise_outcome file card room) ≡ tick_count file) × (tick_count file ≤ 7200)
  unfolding host_number exercise_outcome
  host_accepted e = (rw (eq-eqb _ _ e), ticks_most file (run_count file) (run_taken file card room e).runs_good)

  pub host_number_lem : host_number (exercise_outcome file card room) - 10000 ≡ exercise_refusal file card room
  host_number_lem = go (ℕ_discrete (exercise_refusal file card room) 0)
    where
      go : Dec (exercise_refusal file card room ≡ 0) → host_number (exercise_outcome file card room) - 10000 ≡ exercise_refusal file card room
      go (yes e) = let a = host_accepted e in omega arith
      go (no n) = let a = host_refused n in omega arith
