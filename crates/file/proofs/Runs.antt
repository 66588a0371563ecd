-- Laws of the runs in turn: the first fault is the refusal, and where there is none each run is good and its record is that of its ticks.
-- By induction on the runs.
use Prim.Native.Nat.{ℕ, zero, suc, ◌+◌, ◌≤◌, ◌<◌}
use native.Mathlib.Nat.{le_of_suc-le-suc, eq-or-lt_of_le}
use native.Mathlib.Numerals.{add-one}
use native.Mathlib.Omega.{arith}
use mathlib.Core.Path.{◌≡◌, refl, sym, ap, ap₂, ◌∙◌}
use mathlib.Core.Logic.{⊎_elim}
use mathlib.Core.Bool.{Bool, true, false, not, ◌||◌, cond}
use mathlib.Core.List.{List}
use lib.Dec.{ltb, eqb}
use borrow.Author.Tests.{eqb-false, ltb-false, le-leb, lt-leb}
use Rattle.numbers.proofs.Tests.{neither_iff}
use Rattle.record.specs.declared.Record.{Record}
use Rattle.record.specs.Record.{record_in_range}
use Rattle.record.specs.Times.{most_ticks}
use Rattle.refusal.specs.Refusal.{bad_ticks, bad_record}
use Rattle.refusal.specs.Number.{number}
use Rattle.refusal.specs.declared.Refusal.{Refusal}
use Rattle.refusal.proofs.First.{both_zero, first_zero, first_some}
use Rattle.refusal.proofs.Number.{number_some}
use Rattle.file.specs.File.{run_count, run_ticks, run_record}
use Rattle.file.specs.Runs.{ticks_to, run_fault, runs_refusal, tick_record}

-- ---- a run
pub record RunGood (before ticks : ℕ) (r : Record) : Type 0 where
  pub some : 0 < ticks
  pub fits : before + ticks ≤ most_ticks
  pub good : record_in_range r ≡ true

pub fault_none : (before ticks : ℕ) (r : Record) → run_fault before ticks r ≡ 0 → RunGood before ticks r
unfolding run_fault
fault_none before ticks r h = go (eqb ticks 0 || ltb most_ticks (before + ticks)) (record_in_range r) refl refl h
  where
    go : (a b : Bool) → (eqb ticks 0 || ltb most_ticks (before + ticks)) ≡ a → record_in_range r ≡ b
        → ◌≡◌ {A = ℕ} (cond a bad_ticks (cond (not b) bad_record 0)) 0 → RunGood before ticks r
    go true b e f z = absurd (omega arith)
    go false false e f z = absurd (omega arith)
    go false true e f z =
        let n = (neither_iff (eqb ticks 0) _).0 e in
        let some : (ticks ≡ 0 → ⊥) = eqb-false ticks 0 n.0 in
        let fits : before + ticks ≤ most_ticks = ltb-false most_ticks (before + ticks) n.1 in
        record { some = positive ticks some; fits = fits; good = f }
      where
        positive : (n : ℕ) → (n ≡ 0 → ⊥) → 0 < n
        positive n h = omega arith

module _ (file : List ℕ) where
  abbrev pub fault : ℕ → ℕ
  fault j = run_fault (ticks_to file j) (run_ticks file j) (run_record file j)

  -- the fault of a run, from what the code reads of it
  pub fault_is : (j sum ticks : ℕ) (r : Record) → sum ≡ ticks_to file j → ticks ≡ run_ticks file j → r ≡ run_record file j
      → run_fault sum ticks r ≡ fault j
  fault_is j sum ticks r p q s = rw (p, q, s)

  pub ticks_next : (j : ℕ) → ticks_to file (j + 1) ≡ ticks_to file j + run_ticks file j
  unfolding ticks_to
  ticks_next j = rw add-one

  pub ticks_up : (i j : ℕ) → i ≤ j → ticks_to file i ≤ ticks_to file j
  unfolding ticks_to
  ticks_up i zero h = let e : i ≡ 0 = omega arith in rw e (omega arith)
  ticks_up i (suc j) h =
      ⊎_elim
      (λ (e : i ≡ suc j). rw e (omega arith))
      (λ (l : i < suc j). let r = ticks_up i j (le_of_suc-le-suc l) in omega arith)
      (eq-or-lt_of_le h)

  -- ---- no fault so far, and none in this run
  pub runs_next : (j : ℕ) → runs_refusal file j ≡ 0 → fault j ≡ 0 → runs_refusal file (j + 1) ≡ 0
  unfolding runs_refusal
  runs_next j h k = rw (add-one, h, first_zero) k

  -- none so far, and one in this run
  pub runs_first : (j m : ℕ) → j < m → runs_refusal file j ≡ 0 → (fault j ≡ 0 → ⊥) → runs_refusal file m ≡ fault j
  unfolding runs_refusal
  runs_first j zero l h f = absurd (omega arith)
  runs_first j (suc m) l h f =
      ⊎_elim
      (λ (e : j ≡ m). rw (← e, h) (first_zero _))
      (λ (l : j < m). let r = runs_first j m l h f in first_some _ _ (λ z. f (sym r ∙ z)) ∙ r)
      (eq-or-lt_of_le (le_of_suc-le-suc l))

  -- the same, from what the code reads of this run
  pub runs_stop : (refusal : Refusal) (j sum ticks : ℕ) (r : Record) → number refusal ≡ run_fault sum ticks r → sum ≡ ticks_to file j
      → ticks ≡ run_ticks file j → r ≡ run_record file j → j < run_count file → runs_refusal file j ≡ 0
      → number refusal ≡ runs_refusal file (run_count file)
  runs_stop refusal j sum ticks r e p q s l h =
      let here : number refusal ≡ fault j = e ∙ fault_is j sum ticks r p q s in
      here ∙ sym (runs_first j (run_count file) l h (λ z. number_some refusal (here ∙ z)))

  pub runs_each : (j m : ℕ) → j < m → runs_refusal file m ≡ 0 → RunGood (ticks_to file j) (run_ticks file j) (run_record file j)
  unfolding runs_refusal
  runs_each j zero l h = absurd (omega arith)
  runs_each j (suc m) l h =
      let b = both_zero (runs_refusal file m) (fault m) h in
      ⊎_elim
      (λ (e : j ≡ m). rw e (fault_none _ _ _ b.1))
      (λ (l : j < m). runs_each j m l b.0)
      (eq-or-lt_of_le (le_of_suc-le-suc l))

  -- ---- the record of a tick
  pub tick_is : (j m i : ℕ) → j < m → ticks_to file j ≤ i → i < ticks_to file (j + 1) → tick_record file m i ≡ run_record file j
  unfolding tick_record
  tick_is j zero i l a b = absurd (omega arith)
  tick_is j (suc m) i l a b =
      ⊎_elim
      (λ (e : j ≡ m). rw (← e, le-leb _ _ a))
      (λ (h : j < m).
      let u = ticks_up (j + 1) m (omega arith) in
      let n : i < ticks_to file m = omega arith in
      rw (lt-leb _ _ n) (tick_is j m i h a b))
      (eq-or-lt_of_le (le_of_suc-le-suc l))

  -- ---- a run that is driven up to `end`: it ends where the next begins, and its record, in range, is that of each of its ticks
  pub record RunDriven (j end : ℕ) (r : Record) : Type 0 where
    pub ends : end ≡ ticks_to file (j + 1)
    pub most : end ≤ most_ticks
    pub within : end ≤ ticks_to file (run_count file)
    pub good : record_in_range r ≡ true
    pub each : (i : ℕ) → ticks_to file j ≤ i → i < end → r ≡ tick_record file (run_count file) i

  pub run_driven : (runs j from ticks : ℕ) (r : Record) → runs_refusal file (run_count file) ≡ 0 → runs ≡ run_count file → j < runs
      → from ≡ ticks_to file j → ticks ≡ run_ticks file j → r ≡ run_record file j → RunDriven j (from + ticks) r
  run_driven runs j from ticks r none n l f t e =
      let there : j < run_count file = omega arith in
      let run = runs_each j (run_count file) there none in
      let ends : from + ticks ≡ ticks_to file (j + 1) = ap₂ ◌+◌ f t ∙ sym (ticks_next j) in
      let up = ticks_up (j + 1) (run_count file) (omega arith) in
      let fits = run.fits in
      record {
        ends = ends;
        most = omega arith;
        within = omega arith;
        good = ap record_in_range e ∙ run.good;
        each = λ i a b. e ∙ sym (tick_is j (run_count file) i there a (omega arith));
      }
