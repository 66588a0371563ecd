-- Of each call: the number that its definition works out is that of the first of the paper's reasons that holds.
-- The chain of tests in each definition, test by test; of the runs by induction. Assumes nothing.
use Prim.Native.Nat.{ℕ, zero, suc, ◌-◌, ◌*◌, ◌≤◌, ◌<◌}
use native.Mathlib.Nat.{le_of_suc-le-suc, eq-or-lt_of_le}
use native.Mathlib.Omega.{arith}
use mathlib.Core.Path.{◌≡◌, refl, sym, ◌∙◌}
use mathlib.Core.Bool.{Bool, true, false, not, ◌&&◌, ◌||◌, cond, decide, decide_iff, false≢true}
use mathlib.Core.Logic.{inl, inr, ⊎_elim, ⊎_map, ◌↔◌}
use mathlib.Core.List.{List}
use lib.Dec.{leb, ltb, eqb}
use lib.ListN.{length}
use borrow.Author.Tests.{eqb-true, eq-eqb, ltb-true, lt-ltb}
use Rattle.numbers.specs.All.{all_below}
use Rattle.numbers.proofs.All.{all_each}
use Rattle.numbers.proofs.Tests.{and_iff, or_iff, leb_iff, le_or_lt}
use Rattle.refusal.specs.Refusal.{bad_card, bad_desk}
use Rattle.refusal.proofs.First.{first_zero, first_some}
use Rattle.card.specs.declared.Card.{Card}
use Rattle.card.specs.Card.{card_in_range}
use Rattle.record.specs.declared.Sample.{Sample}
use Rattle.record.specs.Record.{record_in_range, record_at}
use Rattle.record.specs.Sample.{sample_record, sample_refusal, record_refusal}
use Rattle.journal.specs.Journal.{capacity, records}
use Rattle.desk.specs.declared.Desk.{Desk}
use Rattle.desk.specs.declared.Outcome.{Outcome}
use Rattle.desk.specs.Desk.{desk_in_range, no_desk}
use Rattle.desk.specs.Calls.{refused, begun, open_outcome, desk_refusal, tick_refusal, tick_refusal_of, back_refusal, restart_outcome}
use Rattle.same.proofs.Desks.{same_desk?}
use Rattle.why.specs.Why.{rebuilt, rebuilt_refusal, why_refusal}
use Rattle.file.specs.File.{header_good, card_count, run_count, card_in, run_ticks, run_record}
use Rattle.file.specs.Runs.{ticks_to, run_fault, runs_refusal}
use Rattle.file.specs.Read.{tick_count, head_refusal, read_refusal}
use Rattle.exercise.specs.Run.{exercise_refusal}
use Rattle.demands.specs.Ranges.{Between, CardFits, RecordFits, DeskFits}
use Rattle.demands.specs.Reasons as Reasons
use Rattle.demands.specs.Reasons.{none, reason, SwitchesFit, HeaderFits, BadCard, BadTicks, RunFits, TicksFirst, RecordFirst}
use Rattle.demands.proofs.Exactly.{First, if_so, if_not, unless, not_test, first_then}
use Rattle.demands.proofs.Ranges.{ltb_iff, card_fits, record_fits, desk_fits, switches_fit, header_fits}
use Rattle.demands.proofs.Readings.{speed_first, pressure_first}

no_reason_lem : First 0 none
unfolding First
no_reason_lem = refl

-- ---- a test of all below a bound fails exactly when it fails at one
module _ (test : ℕ → Bool) (P : ℕ → Type 0) (is : (i : ℕ) → (test i ≡ true) ↔ P i) where
  abbrev Some : ℕ → Type 0
  Some m = (i : ℕ) × (i < m) × (P i → ⊥)

  found : (m : ℕ) → not (all_below test m) ≡ true → Some m
  unfolding all_below
  found zero e = absurd (false≢true e)
  found (suc m) e = go (all_below test m) (test m) refl (found m) e
    where
      go : (a b : Bool) → test m ≡ b → (not a ≡ true → Some m) → not (a && b) ≡ true → Some (suc m)
      go true true q f r = absurd (false≢true r)
      go true false q f r = (m, omega arith, (not_test (test m) (is m)).0 (rw q))
      go false b q f r = let s = f refl in (s.0, let l = s.1 in omega arith, s.2)

  some_iff : (m : ℕ) → (not (all_below test m) ≡ true) ↔ Some m
  some_iff m = (found m, back (all_below test m) refl)
    where
      back : (b : Bool) → all_below test m ≡ b → Some m → not b ≡ true
      back true e s = absurd (s.2 ((is s.0).0 (all_each test s.0 m s.1 e)))
      back false e s = refl

-- ---- the calls on a desk
refusal_of : (b : Bool) (x y : Outcome) → (cond b x y).refusal ≡ cond b x.refusal y.refusal
refusal_of true x y = refl
refusal_of false x y = refl

pub open_first : (card : Card) → First (open_outcome card).refusal (Reasons.open_reasons card)
unfolding open_outcome
open_first card =
    rw (refusal_of (not (card_in_range card)) (refused no_desk bad_card) (begun card)) (if_not (card_in_range card) 4 0 none (card_fits card) no_reason_lem)

pub restart_first : (d : Desk) → First (restart_outcome d).refusal (Reasons.restart_reasons d)
unfolding restart_outcome
restart_first d =
    rw (refusal_of (not (desk_in_range d)) (refused d bad_desk) (begun d.card)) (if_not (desk_in_range d) 5 0 none (desk_fits d) no_reason_lem)

desk_first : (d : Desk) (bytes : ℕ) → First (desk_refusal d bytes) (reason 5 (DeskFits d → ⊥) (reason 6 (bytes < 8 * d.n) none))
unfolding desk_refusal
desk_first d bytes = if_not (desk_in_range d) 5 _ _ (desk_fits d) (if_so (ltb bytes (8 * d.n)) 6 0 none (ltb_iff _ _) no_reason_lem)

pub sample_first : (x : Sample) →
    First (sample_refusal x)
    (reason 1 (Reasons.BadSpeed x.speed) (reason 2 (Reasons.BadPressure x.pressure) (reason 3 (SwitchesFit x → ⊥) none)))
unfolding sample_refusal record_refusal
sample_first x =
    first_then _ _ (reason 1 _ none) (reason 2 _ (reason 3 _ none)) refl (speed_first x.speed).0
    (first_then _ _ (reason 2 _ none) (reason 3 _ none) refl (pressure_first x.pressure).0
    (unless (record_in_range (sample_record x)) 3 (switches_fit x)))

pub tick_first : (d : Desk) (x : Sample) (J : List ℕ) → First (tick_refusal d x J) (Reasons.tick_reasons d x J)
unfolding tick_refusal_of capacity
tick_first d x J =
    first_then _ _ (reason 5 _ (reason 6 _ none)) (reason 7 _ (reason 1 _ (reason 2 _ (reason 3 _ none)))) refl (desk_first d (length J))
    (if_so (leb (capacity (length J)) d.n) 7 _ _ (leb_iff _ _) (sample_first x))

pub back_first : (d : Desk) (k : ℕ) (J : List ℕ) → First (back_refusal d k J) (Reasons.back_reasons d k J)
unfolding back_refusal records
back_first d k J =
    first_then _ _ (reason 5 _ (reason 6 _ none)) (reason 8 _ (reason 9 _ none)) refl (desk_first d (length J))
    (if_so (ltb d.n k) 8 _ _ (ltb_iff _ _)
    (if_so _ 9 0 none (some_iff (λ i. record_in_range (records J i)) (λ i. RecordFits (record_at J (8 * i))) (λ i. record_fits _) (d.n - k)) no_reason_lem))

pub why_first : (d : Desk) (J : List ℕ) → First (why_refusal d J) (Reasons.why_reasons d J)
unfolding why_refusal rebuilt_refusal records
why_first d J =
    first_then _ _ (reason 5 _ (reason 6 _ none)) (reason 9 _ (reason 23 _ (reason 14 _ none))) refl (desk_first d (length J))
    (if_so _ 9 _ _ (some_iff (λ i. record_in_range (records J i)) (λ i. RecordFits (record_at J (8 * i))) (λ i. record_fits _) d.n)
    (if_not (decide (same_desk? d (rebuilt d J))) 23 _ _ (decide_iff (same_desk? d (rebuilt d J)))
    (if_so (eqb d.state.causes 0) 14 0 none (eqb-true _ _, eq-eqb _ _) no_reason_lem)))

-- ---- the runs in turn
module _ (file : List ℕ) where
  bad_ticks_lem : (j : ℕ) → ((eqb (run_ticks file j) 0 || ltb 7200 (ticks_to file (suc j))) ≡ true) ↔ BadTicks file j
  bad_ticks_lem j = (
    λ e. ⊎_map (eqb-true _ _) (ltb-true _ _) ((or_iff (eqb (run_ticks file j) 0) _).0 e),
    λ h. (or_iff (eqb (run_ticks file j) 0) _).1 (⊎_map (eq-eqb _ _) (lt-ltb _ _) h),
  )

  abbrev Fit : ℕ → Type 0
  Fit j = (i : ℕ) → i < j → RunFits file i

  -- of the first m runs: none is refused, or the first that is for its ticks, or for its record
  data Run (m : ℕ) : Type 0 where
    all : runs_refusal file m ≡ 0 → Fit m → Run m
    ticks : runs_refusal file m ≡ 11 → (j : ℕ) → j < m → Fit j → BadTicks file j → Run m
    record_of : runs_refusal file m ≡ 9 → (j : ℕ) → j < m → Fit j → (BadTicks file j → ⊥) → (RecordFits (run_record file j) → ⊥) → Run m

  fit_more : (m : ℕ) → Fit m → RunFits file m → Fit (suc m)
  fit_more m f r i l = ⊎_elim (λ (e : i ≡ m). rw e r) (λ (h : i < m). f i h) (eq-or-lt_of_le (le_of_suc-le-suc l))

  runs_turn : (m : ℕ) → Run m
  unfolding runs_refusal run_fault ticks_to
  runs_turn zero = all refl (λ i l. absurd (omega arith))
  runs_turn (suc m) = go (runs_turn m)
    where
      here : runs_refusal file m ≡ 0 → Fit m → (a : Bool) → (eqb (run_ticks file m) 0 || ltb 7200 (ticks_to file (suc m))) ≡ a
          → (b : Bool) → record_in_range (run_record file m) ≡ b → Run (suc m)
      here z f true p b q = ticks (rw (z, p, first_zero)) m (omega arith) f ((bad_ticks_lem m).0 p)
      here z f false p true q =
          all (rw (z, p, q, first_zero))
          (fit_more m f (record { ticks = λ h. false≢true (sym p ∙ (bad_ticks_lem m).1 h); record_fits = (record_fits _).0 q }))
      here z f false p false q =
          record_of (rw (z, p, q, first_zero)) m (omega arith) f (λ h. false≢true (sym p ∙ (bad_ticks_lem m).1 h))
          (λ h. false≢true (sym q ∙ (record_fits _).1 h))

      go : Run m → Run (suc m)
      go (all z f) = here z f _ refl _ refl
      go (ticks e j l f b) = ticks (first_some _ _ (λ z. omega arith) ∙ e) j (omega arith) f b
      go (record_of e j l f n b) = record_of (first_some _ _ (λ z. omega arith) ∙ e) j (omega arith) f n b

  runs_first : First (runs_refusal file (run_count file)) (reason 11 (TicksFirst file) (reason 9 (RecordFirst file) none))
  unfolding First
  runs_first = go (runs_turn (run_count file))
    where
      -- a run whose record is the first fault, and one whose ticks are
      apart : (i j : ℕ) → Fit i → (BadTicks file i → ⊥) → (RecordFits (run_record file i) → ⊥) → Fit j → BadTicks file j → ⊥
      apart i j f n r g b =
          ⊎_elim
          (λ (h : i ≤ j). ⊎_elim (λ (e : i ≡ j). n (rw e b)) (λ (l : i < j). r (g i l).record_fits) (eq-or-lt_of_le h))
          (λ (l : j < i). (f j l).ticks b)
          (le_or_lt i j)

      go : Run (run_count file) → First (runs_refusal file (run_count file)) (reason 11 (TicksFirst file) (reason 9 (RecordFirst file) none))
      go (all z f) = inr (λ t. (f t.0 t.1).ticks t.3, inr (λ r. r.4 (f r.0 r.1).record_fits, z))
      go (ticks e j l f b) = inl ((j, l, f, b), e)
      go (record_of e j l f n r) = inr (λ t. apart j t.0 f n r t.2 t.3, inl ((j, l, f, n, r), e))

  -- ---- the file
  head_first : First (head_refusal file) (reason 10 (HeaderFits file → ⊥) (reason 4 (BadCard file) none))
  unfolding head_refusal
  head_first =
      if_not (header_good file) 10 _ _ (header_fits file)
      (if_so _ 4 0 none (some_iff (λ i. card_in_range (card_in file i)) (λ i. CardFits (card_in file i)) (λ i. card_fits _) (card_count file)) no_reason_lem)

  pub read_first : First (read_refusal file) (Reasons.read_reasons file)
  unfolding read_refusal
  read_first = first_then _ _ (reason 10 _ (reason 4 _ none)) (reason 11 _ (reason 9 _ none)) refl head_first runs_first

  card_chosen : (card : ℕ) → ((leb 1 card && leb card (card_count file)) ≡ true) ↔ Between 1 card (card_count file)
  card_chosen card = simp (and_iff, leb_iff) (λ h. h, λ h. h)

  pub exercise_first : (card : ℕ) (buffer : List ℕ) → First (exercise_refusal file card (length buffer)) (Reasons.exercise_reasons file card buffer)
  unfolding exercise_refusal
  exercise_first card buffer =
      first_then _ _ (reason 10 _ (reason 4 _ none)) (reason 13 _ (reason 11 _ (reason 9 _ (reason 12 _ none)))) refl head_first
      (first_then _ _ (reason 13 _ none) (reason 11 _ (reason 9 _ (reason 12 _ none))) refl (unless _ 13 (card_chosen card))
      (first_then _ _ (reason 11 _ (reason 9 _ none)) (reason 12 _ none) refl runs_first
      (if_so (ltb (length buffer) (8 * tick_count file)) 12 0 none (ltb_iff _ _) no_reason_lem)))
