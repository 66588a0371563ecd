-- Laws of the calls: what an accepted one says of the desk and the journal, and what is returned then and else.
-- A chain of refusals that comes to 0 passed every test.
use Prim.Native.Nat.{ℕ, ◌+◌, ◌-◌, ◌*◌, ◌≤◌, ◌<◌}
use native.Mathlib.Omega.{arith}
use mathlib.Core.Path.{◌≡◌, sym, ap, ◌∙◌}
use mathlib.Core.Bool.{true, false, not}
use mathlib.Core.List.{List}
use lib.Dec.{ltb, leb}
use lib.ListN.{length}
use borrow.Author.Tests.{eq-eqb, ne_eqb, le-ltb, lt-ltb, le-leb, lt-leb, ltb-false, leb-false, not-false}
use Rattle.refusal.specs.Refusal.{bad_desk, short_journal, full_journal, back_too_far, bad_record}
use Rattle.refusal.specs.Number.{number}
use Rattle.refusal.specs.declared.Refusal.{Refusal}
use Rattle.refusal.proofs.First.{both_zero, first_zero, first_some, passed}
use Rattle.refusal.proofs.Number.{number_some}
use Rattle.record.specs.declared.Sample.{Sample}
use Rattle.record.specs.declared.Record.{Record}
use Rattle.record.specs.Record.{record_width, put_record}
use Rattle.record.specs.Sample.{sample_record}
use Rattle.record.proofs.Bytes.{put_fits}
use Rattle.rules.specs.Tick.{advance}
use Rattle.rules.specs.After.{after}
use Rattle.desk.specs.declared.Desk.{Desk}
use Rattle.desk.specs.Laws.{ranges_desk}
use Rattle.journal.specs.Journal.{capacity, records, all_in_range}
use Rattle.desk.specs.Desk.{DeskRanges, desk_in_range}
use Rattle.journal.proofs.Room.{room}
use Rattle.desk.specs.Calls.{refused, accepted, desk_refusal, tick_refusal_of, tick_refusal, tick_outcome, tick_journal, back_refusal, back_outcome}

-- ---- refusals
pub record DeskTaken (d : Desk) (bytes : ℕ) : Type 0 where
  pub desk_good : desk_in_range d ≡ true
  pub long : record_width * d.n ≤ bytes

module _ (d : Desk) (bytes : ℕ) where
  pub desk_taken : desk_refusal d bytes ≡ 0 → DeskTaken d bytes
  unfolding desk_refusal
  desk_taken e =
      let five = passed (not (desk_in_range d)) bad_desk _ (omega arith) e in
      let six = passed (ltb bytes (record_width * d.n)) short_journal _ (omega arith) five.1 in
      record { desk_good = not-false _ five.0; long = ltb-false _ _ six.0 }

  pub taken_desk : DeskTaken d bytes → desk_refusal d bytes ≡ 0
  unfolding desk_refusal
  taken_desk t = rw (t.desk_good, le-ltb _ _ t.long)

  pub desk_bad : desk_in_range d ≡ false → bad_desk ≡ desk_refusal d bytes
  unfolding desk_refusal
  desk_bad h = rw h

  -- of a desk that came in range
  module _ (fit : Desk) (good : DeskRanges fit) (is : fit ≡ d) where
    pub desk_short : bytes < record_width * d.n → short_journal ≡ desk_refusal d bytes
    unfolding desk_refusal
    desk_short h = rw (← is, ranges_desk fit good, lt-ltb _ _ (rw (← is) at h))

    pub desk_fit : record_width * d.n ≤ bytes → 0 ≡ desk_refusal d bytes
    desk_fit h = sym (taken_desk (record { desk_good = ap desk_in_range (sym is) ∙ ranges_desk fit good; long = h }))

pub record TickTaken (d : Desk) (sample bytes : ℕ) : Type 0 where
  pub desk : DeskTaken d bytes
  pub below : d.n < capacity bytes
  pub fine : sample ≡ 0

module _ (d : Desk) (sample bytes : ℕ) where
  pub tick_taken : tick_refusal_of d sample bytes ≡ 0 → TickTaken d sample bytes
  unfolding tick_refusal_of
  tick_taken e =
      let both = both_zero (desk_refusal d bytes) _ e in
      let seven = passed (leb (capacity bytes) d.n) full_journal sample (omega arith) both.1 in
      record { desk = desk_taken d bytes both.0; below = leb-false _ _ seven.0; fine = seven.1 }

  pub taken_tick : TickTaken d sample bytes → tick_refusal_of d sample bytes ≡ 0
  unfolding tick_refusal_of
  taken_tick t = rw (taken_desk d bytes t.desk, first_zero, lt-leb _ _ t.below) t.fine

  -- the desk's refusal comes first
  pub tick_first : (r : Refusal) → number r ≡ desk_refusal d bytes → number r ≡ tick_refusal_of d sample bytes
  unfolding tick_refusal_of
  tick_first r e = e ∙ sym (first_some _ _ (λ z. number_some r (e ∙ z)))

  pub tick_full : 0 ≡ desk_refusal d bytes → capacity bytes ≤ d.n → full_journal ≡ tick_refusal_of d sample bytes
  unfolding tick_refusal_of
  tick_full e h = rw (← e, first_zero, le-leb _ _ h)

  pub tick_sample : 0 ≡ desk_refusal d bytes → d.n < capacity bytes → sample ≡ tick_refusal_of d sample bytes
  unfolding tick_refusal_of
  tick_sample e h = rw (← e, first_zero, lt-leb _ _ h)

pub record BackTaken (d : Desk) (k : ℕ) (J : List ℕ) : Type 0 where
  pub desk : DeskTaken d (length J)
  pub few : k ≤ d.n
  pub good : all_in_range J (d.n - k) ≡ true

module _ (d : Desk) (k : ℕ) (J : List ℕ) where
  pub back_taken : back_refusal d k J ≡ 0 → BackTaken d k J
  unfolding back_refusal
  back_taken e =
      let both = both_zero (desk_refusal d (length J)) _ e in
      let eight = passed (ltb d.n k) back_too_far _ (omega arith) both.1 in
      let nine = passed (not (all_in_range J (d.n - k))) bad_record 0 (omega arith) eight.1 in
      record { desk = desk_taken d (length J) both.0; few = ltb-false _ _ eight.0; good = not-false _ nine.0 }

  pub taken_back : BackTaken d k J → back_refusal d k J ≡ 0
  unfolding back_refusal
  taken_back t = rw (taken_desk d (length J) t.desk, first_zero, le-ltb _ _ t.few, t.good)

  -- the desk's refusal comes first
  pub back_first : (r : Refusal) → number r ≡ desk_refusal d (length J) → number r ≡ back_refusal d k J
  unfolding back_refusal
  back_first r e = e ∙ sym (first_some _ _ (λ z. number_some r (e ∙ z)))

  pub back_over : 0 ≡ desk_refusal d (length J) → d.n < k → back_too_far ≡ back_refusal d k J
  unfolding back_refusal
  back_over e h = rw (← e, first_zero, lt-ltb _ _ h)

  pub back_bad : 0 ≡ desk_refusal d (length J) → k ≤ d.n → all_in_range J (d.n - k) ≡ false → bad_record ≡ back_refusal d k J
  unfolding back_refusal
  back_bad e few h = rw (← e, first_zero, le-ltb _ _ few, h)

  pub back_fit : 0 ≡ desk_refusal d (length J) → k ≤ d.n → all_in_range J (d.n - k) ≡ true → 0 ≡ back_refusal d k J
  unfolding back_refusal
  back_fit e few h = rw (← e, first_zero, le-ltb _ _ few, h)

  -- more than there are ticks
  pub back_many : DeskTaken d (length J) → d.n < k → back_refusal d k J ≡ back_too_far
  unfolding back_refusal
  back_many t h = sym (back_over (sym (taken_desk d (length J) t)) h)

-- the refusals as the code comes by them
pub ruleset of_desk = (desk_bad, desk_short, desk_fit)

pub ruleset of_tick = (tick_first, tick_full, tick_sample)

pub ruleset of_back = (desk_taken, back_first, back_over, back_bad, back_fit)

-- ---- outcomes
module _ (d : Desk) (x : Sample) (J : List ℕ) where
  pub tick_yes : tick_refusal d x J ≡ 0 →
      (tick_outcome d x J ≡ accepted d.card (d.n + 1) (advance d.card d.state (sample_record x)))
      × (tick_journal d x J ≡ put_record J (record_width * d.n) (sample_record x))
  unfolding tick_outcome tick_journal
  tick_yes e =
      let fits = (room _ _ (tick_taken _ _ _ e).below).1 in
      (rw (eq-eqb _ _ e), rw (eq-eqb _ _ e) (sym (put_fits J (record_width * d.n) (sample_record x) fits)))

  pub tick_no : (tick_refusal d x J ≡ 0 → ⊥) → (tick_outcome d x J ≡ refused d (tick_refusal d x J)) × (tick_journal d x J ≡ J)
  unfolding tick_outcome tick_journal
  tick_no e = (rw (ne_eqb _ _ e), rw (ne_eqb _ _ e))

  -- as the code comes by them: by a refusal, or by a desk and a record in range
  pub tick_refused : (r : Refusal) → number r ≡ tick_refusal d x J
      → (refused d (number r) ≡ tick_outcome d x J) × (J ≡ tick_journal d x J)
  tick_refused r e = let no = tick_no (λ z. number_some r (e ∙ z)) in (ap (refused d) e ∙ sym no.0, sym no.1)

  pub tick_accepted : (fit : Desk) (reading : Record) → 0 ≡ tick_refusal d x J → (fit ≡ d) × (reading ≡ sample_record x)
      → (accepted d.card (d.n + 1) (advance fit.card fit.state reading) ≡ tick_outcome d x J)
      × (put_record J (record_width * d.n) reading ≡ tick_journal d x J)
  tick_accepted fit reading e is = let yes = tick_yes (sym e) in (rw (is.0, is.1) (sym yes.0), rw is.1 (sym yes.1))

module _ (d : Desk) (k : ℕ) (J : List ℕ) where
  pub back_yes : back_refusal d k J ≡ 0 → back_outcome d k J ≡ accepted d.card (d.n - k) (after d.card (records J) (d.n - k))
  unfolding back_outcome
  back_yes e = rw (eq-eqb _ _ e)

  pub back_no : (back_refusal d k J ≡ 0 → ⊥) → back_outcome d k J ≡ refused d (back_refusal d k J)
  unfolding back_outcome
  back_no e = rw (ne_eqb _ _ e)

  -- as the code comes by them
  pub back_refused : (r : Refusal) → number r ≡ back_refusal d k J → refused d (number r) ≡ back_outcome d k J
  back_refused r e = ap (refused d) e ∙ sym (back_no (λ z. number_some r (e ∙ z)))

  pub back_accepted : (fit : Desk) (left : ℕ) → 0 ≡ back_refusal d k J → (fit ≡ d) × (left ≡ d.n - k)
      → accepted d.card left (after fit.card (records J) left) ≡ back_outcome d k J
  back_accepted fit left e is = rw (is.0, is.1) (sym (back_yes (sym e)))

  -- what `rebuilt` asks of the journal
  pub back_records : (left : ℕ) → 0 ≡ back_refusal d k J → left ≡ d.n - k → (record_width * left ≤ length J) × (all_in_range J left ≡ true)
  back_records left e is =
      let taken = back_taken d k J (sym e) in
      let long = taken.desk.long in
      (omega arith, rw is taken.good)
