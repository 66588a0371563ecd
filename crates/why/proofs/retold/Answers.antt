-- `retold` makes one pass over the records, by the laws of one record more.
use Rattle.std.proofs.Common.{ℕ, ◌+◌, ◌*◌, ◌≡◌, true, false, List, Result, Ok, Err, rules, sym, ap, ap₂, ◌∙◌, arith}
use Rattle.numbers.proofs.All.{all_none}
use Rattle.refusal.specs.declared.Refusal.{Refusal}
use Rattle.refusal.specs.declared.Refusal.TheVariants.{BadRecord}
use Rattle.card.specs.declared.Card.{Card}
use Rattle.record.specs.declared.Record.{Record}
use Rattle.record.specs.Record.{record_width, record_at, record_in_range}
use Rattle.record.specs.Laws.{ranges_record}
use Rattle.state.specs.declared.State.{State}
use Rattle.rules.specs.declared.AfterTick.{AfterTick}
use Rattle.rules.specs.Tick.{advance}
use Rattle.rules.specs.After.{after}
use Rattle.rules.proofs.After.{after_next}
use Rattle.journal.specs.Journal.{records, all_in_range}
use Rattle.journal.proofs.Records.{failed, one_more}
use Rattle.why.specs.Starts.{Starts}
use Rattle.why.specs.declared.Told.{Told}
use Rattle.why.specs.Told.{no_starts, starts_at, starts_after, retold}
use Rattle.why.proofs.Next.{starts_none, starts_next}
use Rattle.why.proofs.retold.Goals as goal

module _ (card : Card) (J : List ℕ) where
  bad_told : (n : ℕ) (told : Result Told Refusal) → false ≡ all_in_range J n → told ≡ Err BadRecord → told ≡ retold card J n
  unfolding retold
  bad_told n told bad e = rw (← bad) e

  all_told : (n : ℕ) (state : State) (starts : Starts) → all_in_range J n ≡ true → state ≡ (after card (records J) n).state
      → starts ≡ starts_after card J n → Ok (record { state = state; starts = starts }) ≡ retold card J n
  unfolding retold
  all_told n state starts good reached begun = rw (good, reached, begun)

  -- one record more
  again : (i : ℕ) (state : State) (r : Record) (tick : AfterTick) → state ≡ (after card (records J) i).state
      → r ≡ record_at J (record_width * i) → tick ≡ advance card state r → tick ≡ after card (records J) (i + 1)
  unfolding records
  again i state r tick p q t = t ∙ ap₂ (advance card) p q ∙ sym (after_next card (records J) i)

  begun_again : (i : ℕ) (state : State) (tick : AfterTick) (starts next : Starts) → state ≡ (after card (records J) i).state
      → starts ≡ starts_after card J i → tick ≡ after card (records J) (i + 1)
      → next ≡ starts_at (i + 1) state.causes tick.state.causes starts → next ≡ starts_after card J (i + 1)
  begun_again i state tick starts next p s t e = e ∙ rw (p, s, t) (sym (starts_next card J i))

pub loop-i-init : goal.loop-i-init
unfolding after
loop-i-init c =
    let none : c.default-starts.result ≡ no_starts = search rules in
    record {
      good = all_none _;
      ranges = c.fresh_state.result.in_range;
      reached = c.fresh_state.ensures;
      begun = none ∙ sym (starts_none _ _);
    }

pub returns-in_err-reading : goal.returns-in_err-reading
returns-in_err-reading c =
    let bad : record_in_range c.record_at-reading.result ≡ false = search rules in
    let is : c.from_residual.result ≡ Err BadRecord = search rules in
    bad_told _ _ _ _ (failed _ c.loop-i.i _ c.record_at-reading.ensures _ c.loop-i-test.true bad) is

pub loop-i-preserved : goal.loop-i-preserved
loop-i-preserved c =
    let inv = c.loop-i.invariant in
    let same : c.in_ok-reading.reading.it ≡ c.record_at-reading.result = search rules in
    let is = same ∙ c.record_at-reading.ensures in
    let tick = again _ _ c.loop-i.i _ _ _ inv.reached is c.advance-tick.ensures.0 in
    record {
      good = one_more _ c.loop-i.i _ is inv.good (ranges_record _ c.in_ok-reading.reading.in_range);
      ranges = c.advance-tick.ensures.1;
      reached = ap (λ (x : AfterTick). x.state) tick;
      begun = begun_again _ _ c.loop-i.i _ _ _ _ inv.reached inv.begun tick c.starts_at-starts.ensures;
    }

pub returns : goal.returns
returns c =
    let inv = c.loop-i.invariant in
    let e : c.loop-i.i ≡ c.args.n = omega arith in
    all_told _ _ _ _ _ (rw e at inv.good) (rw e at inv.reached) (rw e at inv.begun)
