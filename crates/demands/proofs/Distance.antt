-- Request 2, `distance`, of our functions, and `distance_exported` of the exported calls: the curve's value, and how an accepted tick moves the curve.
-- From demand 2: the desk after it is that of `advance`, whose curve in PRE is that of steps 2 to 6 (rules/proofs/Curve.antt, signal/proofs/Distance.antt).
-- Assumes nothing.
use Prim.Native.Nat.{ℕ, ◌+◌, ◌*◌, ◌-◌, ◌≤◌, ◌<◌}
use mathlib.Core.Path.{◌≡◌, sym, ap, ◌∙◌}
use mathlib.Core.Bool.{true, false, true≢false}
use mathlib.Core.Logic.{◌⊎◌, ⊎_elim}
use mathlib.Core.List.{List}
use native.Mathlib.Omega.{arith}
use native.Mathlib.Decide.{ℕ_discrete}
use lib.Dec.{eqb}
use borrow.Author.Tests.{ne_eqb, lt-leb}
use Rattle.numbers.proofs.Tests.{and_iff, and_false, not_iff}
use Rattle.card.specs.declared.Card.{Card}
use Rattle.card.specs.Card.{CardRanges}
use Rattle.record.specs.declared.Keys.{Keys}
use Rattle.record.specs.declared.Record.{Record}
use Rattle.record.specs.declared.Sample.{Sample}
use Rattle.record.specs.Record.{RecordRanges}
use Rattle.record.specs.Modes.{pre}
use Rattle.record.specs.Flags.{keys_of}
use Rattle.record.specs.Sample.{sample_record}
use Rattle.record.specs.Laws.{record_ranges}
use Rattle.record.proofs.Refusal.{sample_in_range}
use Rattle.codes.specs.Target.{target}
use Rattle.signal.specs.declared.Curve.{Curve}
use Rattle.signal.specs.declared.Signal.{Signal}
use Rattle.signal.specs.declared.SignalStep.{SignalStep}
use Rattle.signal.specs.Ranges.{SignalRanges}
use Rattle.signal.specs.Value.{curve_value}
use Rattle.signal.specs.NewCode.{new_target, man_stays, old_speed}
use Rattle.signal.specs.Curve.{curve_holds, driven_now}
use Rattle.signal.specs.Steps.{target_now, steps_2_to_6}
use Rattle.signal.proofs.Value.{value_largest}
use Rattle.signal.proofs.Keeps.{steps_2_to_6_ranges}
use Rattle.signal.proofs.Distance.{value_by_start, value_falls, value_over, above_target, grows, stays_on, first_not_counted, follows}
use Rattle.state.specs.declared.State.{State}
use Rattle.state.specs.State.{StateRanges}
use Rattle.state.specs.Mode.{mode_now}
use Rattle.state.proofs.Keeps.{step_1_mode_ranges}
use Rattle.rules.specs.declared.AfterTick.{AfterTick}
use Rattle.rules.specs.Tick.{advance}
use Rattle.rules.proofs.Curve.{cleared, start_after, driven_after, target_after, in_mode, in_pre_lem, left_pre}
use Rattle.desk.specs.declared.Desk.{Desk}
use Rattle.desk.specs.declared.Outcome.{Outcome}
use Rattle.desk.specs.Desk.{DeskRanges}
use Rattle.desk.specs.Laws.{desk_ranges}
use Rattle.desk.proofs.Calls as Calls
use Rattle.demands.specs.Distance.{SameCode, NewCurve, Distance}
use Rattle.demands.proofs.Functions.{functions, exported, exported_same, ticks_is}
use Rattle.demands.proofs.Numbers.{tick_number_lem}
use Rattle.demands.proofs.Ranges.{desk_fits}
use Rattle.demands.proofs.Demand2.{demand2}

-- ---- any tick
module _ (card : Card) (state : State) (reading : Record) where
  abbrev keys : Keys
  keys = keys_of reading.flags state.buttons

  abbrev next : Curve
  next = (advance card state reading).state.signal.curve

  left : (mode_now state reading ≡ pre → ⊥) → (next.start ≡ 0) × (next.driven ≡ 0)
  left n =
      let e = left_pre card state reading n in
      (start_after card state reading ∙ ap (λ x. x.curve.start) e, driven_after card state reading ∙ ap (λ x. x.curve.driven) e)

  -- a curve that runs after it: the desk is in PRE
  in_pre_now : 0 < next.start → mode_now state reading ≡ pre
  in_pre_now runs = go (ℕ_discrete (mode_now state reading) pre)
    where
      go : Dec (mode_now state reading ≡ pre) → mode_now state reading ≡ pre
      go (yes e) = e
      go (no n) = absurd (omega (arith, left n))

  module _ (card_good : CardRanges card) (good : StateRanges state) (fits : RecordRanges reading) where
    above : 0 < next.start → (advance card state reading).answer.target < curve_value card next (advance card state reading).answer.target next.driven
    unfolding steps_2_to_6
    above runs =
        let signal = (cleared card state reading).signal in
        let step = steps_2_to_6 card signal reading keys in
        let e = in_mode card state reading (in_pre_now runs) in
        let start : next.start ≡ step.signal.curve.start = start_after card state reading ∙ ap (λ x. x.signal.curve.start) e in
        let driven : next.driven ≡ step.signal.curve.driven = driven_after card state reading ∙ ap (λ x. x.signal.curve.driven) e in
        let t : (advance card state reading).answer.target ≡ step.target = target_after card state reading ∙ ap (λ x. x.target) e in
        let value : curve_value card next (advance card state reading).answer.target next.driven
        ≡ curve_value card step.signal.curve step.target step.signal.curve.driven =
        value_by_start card next step.signal.curve (advance card state reading).answer.target next.driven start
        ∙ ap (curve_value card step.signal.curve (advance card state reading).answer.target) driven
        ∙ ap (λ T. curve_value card step.signal.curve T step.signal.curve.driven) t in
        let higher = above_target card signal reading keys card_good (step_1_mode_ranges state reading good fits).signal fits (omega (arith, start)) in
        omega (arith, t, value, higher)

-- ---- a tick on a desk in PRE
module _ (card : Card) (state : State) (reading : Record) (was : state.mode ≡ pre) where
  abbrev step : SignalStep
  step = steps_2_to_6 card state.signal reading (keys card state reading)

  abbrev old : Curve
  old = state.signal.curve

  stayed : mode_now state reading ≡ pre
      → ((next card state reading).start ≡ step.signal.curve.start) × ((next card state reading).driven ≡ step.signal.curve.driven)
  stayed now =
      let e = in_pre_lem card state reading was now in
      (start_after card state reading ∙ ap (λ x. x.signal.curve.start) e, driven_after card state reading ∙ ap (λ x. x.signal.curve.driven) e)

  -- under a new code, with MAN off or ended by it
  module _ (new : reading.code ≡ state.signal.codes.last → ⊥) (off : man_stays card state.signal reading ≡ false) where
    first : (next card state reading).driven ≡ 0
    first = go (ℕ_discrete (mode_now state reading) pre)
      where
        go : Dec (mode_now state reading ≡ pre) → (next card state reading).driven ≡ 0
        go (yes e) = (stayed e).1 ∙ first_not_counted card state.signal reading (keys card state reading) new off
        go (no n) = (left card state reading n).1

    followed : 0 < (next card state reading).start → (next card state reading).start ≡ old_speed card state.signal
    followed runs =
        let s = stayed (in_pre_now card state reading runs) in
        s.0 ∙ follows card state.signal reading (keys card state reading) new off (omega (arith, s.0))

  -- under the code of the tick before
  module _ (same : reading.code ≡ state.signal.codes.last) where
    abbrev t : ℕ
    t = target_now card state.signal reading (keys card state reading)

    goes_on : 0 < (next card state reading).start → ((next card state reading).start ≡ old.start)
        × ((next card state reading).driven ≡ old.driven + reading.v) × (curve_holds card old false t reading.v ≡ true)
    goes_on runs =
        let s = stayed (in_pre_now card state reading runs) in
        let g = grows card state.signal reading (keys card state reading) same (omega (arith, s.0)) in
        (s.0 ∙ g.0, s.1 ∙ g.1, g.2)

    value_next : 0 < (next card state reading).start → (S : ℕ)
        → curve_value card (next card state reading) S (next card state reading).driven ≡ curve_value card old S (old.driven + reading.v)
    value_next runs S =
        let g = goes_on runs in
        value_by_start card (next card state reading) old S (next card state reading).driven g.0 ∙ ap (curve_value card old S) g.1

    -- T of the answer
    target_is : mode_now state reading ≡ pre → (advance card state reading).answer.target ≡ t
    unfolding steps_2_to_6
    target_is now = target_after card state reading ∙ ap (λ x. x.target) (in_pre_lem card state reading was now)

    -- the curve is over at its grown E: it does not run
    over_stops : eqb (curve_value card old t (old.driven + reading.v)) t ≡ true → 0 < (next card state reading).start → ⊥
    unfolding curve_holds driven_now
    over_stops over runs =
        let f = simp (and_iff, not_iff) at (goes_on runs).2 in
        true≢false (sym over ∙ f.1)

    has_ended : CardRanges card → SignalRanges state.signal → RecordRanges reading
        → 5 * (old.start * old.start - (advance card state reading).answer.target * (advance card state reading).answer.target)
        ≤ card.deceleration * (old.driven + reading.v) → 0 < (next card state reading).start → ⊥
    unfolding steps_2_to_6
    has_ended card_good good fits h runs =
        let t_most = (steps_2_to_6_ranges card state.signal reading card_good good fits (keys card state reading)).target_most in
        let over = rw (target_is (in_pre_now card state reading runs)) at h in
        over_stops (value_over card old t good.curve t_most (old.driven + reading.v) over) runs

    -- at a stand the asked mode is taken
    asked_pre : reading.mode ≡ pre → reading.v ≡ 0 → mode_now state reading ≡ pre
    unfolding mode_now
    asked_pre asked stands = simp (stands, asked)

    stays : reading.mode ≡ pre → reading.v ≡ 0 → (keys card state reading).plus ≡ false → (keys card state reading).man ≡ false
        → (keys card state reading).loss ≡ false → 0 < old.start
        → target card state.signal.codes.last state.signal.codes.raise
        < curve_value card old (target card state.signal.codes.last state.signal.codes.raise) old.driven
        → 0 < (next card state reading).start
    stays asked stands plus man loss runs above =
        let before = target card state.signal.codes.last state.signal.codes.raise in
        let unmoved : old.driven + reading.v ≡ old.driven = omega arith in
        let not_over = ap (λ driven. eqb (curve_value card old before driven) before) unmoved
        ∙ ne_eqb (curve_value card old before old.driven) before (omega arith) in
        let on = stays_on card state.signal reading (keys card state reading) same plus man loss runs not_over in
        omega (arith, (stayed (asked_pre asked stands)).0, on)

-- MAN off, or ended by the new code
man_gone : (card : Card) (signal : Signal) (reading : Record) → (signal.man ≡ 0) ⊎ (reading.v < new_target card reading)
    → man_stays card signal reading ≡ false
man_gone card signal reading =
    ⊎_elim (λ off. simp off) (λ ended. simp (lt-leb (new_target card reading) reading.v ended, and_false))

-- ---- the desk after an accepted tick
module _ (desk : Desk) (sample : Sample) (good : DeskRanges desk) (fits : RecordRanges (sample_record sample)) (was : desk.state.mode ≡ pre) where
  abbrev reading : Record
  reading = sample_record sample

  abbrev after : AfterTick
  after = advance desk.card desk.state reading

  same_code : (n : ℕ) → sample.code ≡ desk.state.signal.codes.last
      → SameCode desk sample (record { card = desk.card; n = n; state = after.state }) after.answer.target
  unfolding sample_record
  same_code n same =
      record {
        grows = λ runs. let g = goes_on desk.card desk.state reading was same runs in (g.0, g.1);
        never_rises = λ runs S p. omega (
          arith,
          value_next desk.card desk.state reading was same runs S,
          value_falls desk.card desk.state.signal.curve S good.state.signal.curve p {near = desk.state.signal.curve.driven}
              {far = desk.state.signal.curve.driven + reading.v} (omega arith),
        );
        standing_keeps = λ runs stands. (
          omega (arith, (goes_on desk.card desk.state reading was same runs).1),
          λ S. value_next desk.card desk.state reading was same runs S
              ∙ ap (curve_value desk.card desk.state.signal.curve S) (omega arith),
        );
        has_ended = has_ended desk.card desk.state reading was same good.card good.state.signal fits;
        stays = stays desk.card desk.state reading was same;
      }

  new_code : (n : ℕ) → (sample.code ≡ desk.state.signal.codes.last → ⊥)
      → (desk.state.signal.man ≡ 0) ⊎ (reading.v < target desk.card sample.code 0)
      → NewCurve desk (record { card = desk.card; n = n; state = after.state })
  unfolding sample_record
  new_code n new man =
      let off = man_gone desk.card desk.state.signal reading man in
      record {
        first = first desk.card desk.state reading was new off;
        follows = followed desk.card desk.state reading was new off;
      }

module _ (d : Desk) (x : Sample) (J : List ℕ) (o : Outcome) (K : List ℕ) (f : functions.ticks d x J o K) (z : o.refusal ≡ 0) where
  -- an accepted tick was on a desk in range, with a record in range
  taken : DeskRanges d × RecordRanges (sample_record x)
  taken =
      let zero = sym (tick_number_lem d x J) ∙ ap (λ out. out.refusal) (sym (ticks_is d x J o K f).0) ∙ z in
      let t = Calls.tick_taken _ _ _ zero in
      (desk_ranges d t.desk.desk_good, record_ranges _ (sample_in_range x t.fine))

pub distance : Distance functions
distance = record {
  largest = λ d fits T p. let good = desk_ranges d ((desk_fits d).1 fits) in
      value_largest d.card d.state.signal.curve T d.state.signal.curve.driven good.state.signal.curve p;
  above = λ d x J o K f z. let r = taken d x J o K f z in
      let g = ((demand2.tick d x J o K f).1 z).2 in
      rw (g.desk, g.answer) (above d.card d.state (sample_record x) r.0.card r.0.state r.1);
  same_code = λ d x J o K f z was same. let r = taken d x J o K f z in
      let g = ((demand2.tick d x J o K f).1 z).2 in
      rw (g.desk, g.answer) (same_code d x r.0 r.1 was (d.n + 1) same);
  new_code = λ d x J o K f z was new man. let r = taken d x J o K f z in
      let g = ((demand2.tick d x J o K f).1 z).2 in
      rw g.desk (new_code d x r.0 r.1 was (d.n + 1) new man);
}

pub distance_exported : Distance exported
distance_exported = rw exported_same distance
