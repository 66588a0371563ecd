-- How a tick moves the curve. Under the code before: E grows by v, so that the value never rises, and at r·E from 5·(V0² − T²) on it has ended.
-- Under a new code: a curve that begins starts from the old signal speed, with E = 0. And one that runs after the tick is above T.
-- By cases on the tests of step 5, and the laws of the value. Assumes nothing.
use Prim.Native.Nat.{ℕ, ◌+◌, ◌-◌, ◌*◌, ◌≤◌, ◌<◌}
use mathlib.Core.Path.{◌≡◌, refl, ap, ◌∙◌}
use mathlib.Core.Bool.{Bool, true, false, not, ◌&&◌, cond}
use native.Mathlib.Omega.{arith}
use native.Mathlib.Nat.{mul-le-mul_left}
use borrow.Author.Tests.{eq-eqb, ne_eqb, eqb-false, lt-ltb, ltb-false}
use lib.Dec.{ltb, eqb}
use Rattle.numbers.proofs.Tests.{and_iff, not_iff}
use Rattle.numbers.proofs.Choice.{cond_has}
use Rattle.reading.specs.Speed.{top_speed}
use Rattle.card.specs.declared.Card.{Card}
use Rattle.card.specs.Card.{CardRanges}
use Rattle.record.specs.declared.Record.{Record}
use Rattle.record.specs.declared.Keys.{Keys}
use Rattle.record.specs.Record.{RecordRanges}
use Rattle.codes.specs.Target.{target}
use Rattle.codes.specs.Plus.{raise_by_code, step_3_plus, codes_next}
use Rattle.signal.specs.declared.Curve.{Curve}
use Rattle.signal.specs.declared.Signal.{Signal}
use Rattle.signal.specs.Ranges.{CurveRanges, SignalRanges, no_curve}
use Rattle.signal.specs.Value.{five_squares, curve_bound, curve_value}
use Rattle.signal.specs.NewCode.{curve_from, old_speed, man_stays, curve_begins, curve_by_code}
use Rattle.signal.specs.Curve.{driven_now, curve_holds, man_starts, curve_now}
use Rattle.signal.specs.Steps.{target_now, steps_2_to_6}
use Rattle.signal.proofs.Value.{fits_most, value_largest, value_least, over_by_squares}
use Rattle.signal.proofs.Keeps.{curve_by_code_ranges, steps_2_to_6_ranges}

-- the value is that of V0 and E
pub value_by_start : (card : Card) (a b : Curve) (t driven : ℕ) → a.start ≡ b.start → curve_value card a t driven ≡ curve_value card b t driven
unfolding curve_value curve_bound
value_by_start card a b t driven e = rw e refl

module _ (card : Card) (curve : Curve) (t : ℕ) (good : CurveRanges curve) (t_most : t ≤ top_speed) where
  -- the farther, the lower
  pub value_falls : {near far : ℕ} → near ≤ far → curve_value card curve t far ≤ curve_value card curve t near
  unfolding curve_bound
  value_falls {near} {far} p =
      fits_most (value_largest card curve t near good t_most)
      (omega (arith, (value_largest card curve t far good t_most).fits, mul-le-mul_left card.deceleration p))

  -- where r·E is 5·(V0² − T²) or more, the value is T
  pub value_over : (driven : ℕ) → 5 * (curve.start * curve.start - t * t) ≤ card.deceleration * driven
      → eqb (curve_value card curve t driven) t ≡ true
  unfolding curve_bound
  value_over driven p =
      over_by_squares card curve t driven good t_most
      ∙ lt-ltb (curve_bound card curve t driven) (five_squares (t + 1)) (omega arith)

-- ---- step 5
module _ (card : Card) (curve : Curve) (begins : Bool) (t v : ℕ) (keys : Keys) where
  abbrev pub next : Curve
  next = curve_now card curve begins t v keys

  -- what it says of a curve that it runs after step 5: it ran before, and is not over
  abbrev WentOn : Curve → Type 0
  WentOn now = 0 < now.start → (now.start ≡ curve.start) × (now.driven ≡ driven_now curve begins v) × (curve_holds card curve begins t v ≡ true)

  pub goes_on : WentOn next
  unfolding curve_now
  goes_on = go (ltb 0 curve.start) (curve_holds card curve begins t v) (man_starts card curve begins t v keys) refl refl
    where
      going : Curve
      going = record { start = curve.start; driven = driven_now curve begins v; prompted = curve.prompted }

      go : (runs holds man : Bool) → ltb 0 curve.start ≡ runs → curve_holds card curve begins t v ≡ holds
          → WentOn (cond runs (cond (holds && not man) going no_curve) curve)
      go true true false e f p = (refl, refl, f)
      go true true true e f p = absurd (omega arith)
      go true false man e f p = absurd (omega arith)
      go false holds man e f p = absurd (omega (arith, ltb-false 0 curve.start e))

  -- a curve that is not over goes on without a MAN press and without adhesion loss
  holds_on : 0 < curve.start → curve_holds card curve begins t v ≡ true → keys.man ≡ false → keys.loss ≡ false → next.start ≡ curve.start
  unfolding curve_now man_starts
  holds_on runs holds man loss = simp (lt-ltb 0 curve.start runs, holds, man, loss)

-- a curve that begins in this tick, or none: E is 0
not_counted : (card : Card) (speed t v : ℕ) (keys : Keys) (begins : Bool)
    → (curve_now card (cond begins (curve_from speed) no_curve) begins t v keys).driven ≡ 0
unfolding curve_now driven_now
not_counted card speed t v keys true =
    let from = curve_from speed in
    cond_has None (ltb 0 speed) (cond_has None (curve_holds card from true t v && not (man_starts card from true t v keys)) refl refl) refl
  where
    None : Curve → Type 0
    None curve = curve.driven ≡ 0
not_counted card speed t v keys false = refl

-- where it is the start of a curve that begins, or of none, that one began
begun : (speed start : ℕ) (begins : Bool) → 0 < start → start ≡ (cond begins (curve_from speed) no_curve).start → start ≡ speed
begun speed start true runs e = e
begun speed start false runs e = absurd (omega arith)

-- ---- steps 2 to 6
module _ (card : Card) (signal : Signal) (reading : Record) (keys : Keys) where
  abbrev pub after : Curve
  after = (steps_2_to_6 card signal reading keys).signal.curve

  abbrev made : Curve
  made = curve_by_code card signal reading

  abbrev t : ℕ
  t = target_now card signal reading keys

  ran : 0 < after.start → (after.start ≡ made.start) × (after.driven ≡ driven_now made (curve_begins card signal reading) reading.v)
      × (curve_holds card made (curve_begins card signal reading) t reading.v ≡ true)
  unfolding steps_2_to_6
  ran = goes_on card made (curve_begins card signal reading) t reading.v keys

  -- a curve that runs after it is above T
  pub above_target : CardRanges card → SignalRanges signal → RecordRanges reading → 0 < after.start → t < curve_value card after t after.driven
  unfolding curve_holds steps_2_to_6
  above_target card_good good fits runs =
      let r = ran runs in
      let driven = driven_now made (curve_begins card signal reading) reading.v in
      let same : curve_value card after t after.driven ≡ curve_value card made t driven =
      value_by_start card after made t after.driven r.0 ∙ ap (curve_value card made t) r.1 in
      let h = simp (and_iff, not_iff) at r.2 in
      let t_most = (steps_2_to_6_ranges card signal reading card_good good fits keys).target_most in
      let least = value_least card made t driven (curve_by_code_ranges card signal reading card_good good fits) t_most in
      omega (arith, same, least, eqb-false (curve_value card made t driven) t h.1)

  -- under the code of the tick before
  module _ (same : reading.code ≡ signal.codes.last) where
    kept : made ≡ signal.curve
    unfolding curve_by_code
    kept = simp (eq-eqb reading.code signal.codes.last same)

    none_begins : curve_begins card signal reading ≡ false
    unfolding curve_begins
    none_begins = simp (eq-eqb reading.code signal.codes.last same)

    pub grows : 0 < after.start → (after.start ≡ signal.curve.start) × (after.driven ≡ signal.curve.driven + reading.v)
        × (curve_holds card signal.curve false t reading.v ≡ true)
    unfolding steps_2_to_6 driven_now
    grows = simp (kept, none_begins) (goes_on card signal.curve false t reading.v keys)

    -- T stays without a PLUS press
    target_stays : keys.plus ≡ false → t ≡ target card signal.codes.last signal.codes.raise
    unfolding codes_next step_3_plus raise_by_code
    target_stays plus = simp (plus, same, eq-eqb signal.codes.last signal.codes.last refl)

    -- without a press of PLUS or MAN and without adhesion loss, a curve whose value at the grown E is not T goes on
    pub stays_on : keys.plus ≡ false → keys.man ≡ false → keys.loss ≡ false → 0 < signal.curve.start
        → eqb (curve_value card signal.curve (target card signal.codes.last signal.codes.raise) (signal.curve.driven + reading.v))
        (target card signal.codes.last signal.codes.raise)
        ≡ false
        → after.start ≡ signal.curve.start
    unfolding steps_2_to_6 driven_now curve_holds
    stays_on plus man loss runs not_over =
        simp (kept, none_begins, target_stays plus)
        (holds_on card signal.curve false (target card signal.codes.last signal.codes.raise) reading.v keys runs
        (simp (lt-ltb 0 signal.curve.start runs, not_over)) man loss)

  -- under a new code, with MAN off or ended by it
  module _ (new : reading.code ≡ signal.codes.last → ⊥) (off : man_stays card signal reading ≡ false) where
    begun_or_none : made ≡ cond (curve_begins card signal reading) (curve_from (old_speed card signal)) no_curve
    unfolding curve_by_code
    begun_or_none = simp (ne_eqb reading.code signal.codes.last new, off)

    -- a curve that begins has E = 0
    pub first_not_counted : after.driven ≡ 0
    unfolding steps_2_to_6
    first_not_counted = simp begun_or_none (not_counted card (old_speed card signal) t reading.v keys (curve_begins card signal reading))

    -- and starts from the old signal speed
    pub follows : 0 < after.start → after.start ≡ old_speed card signal
    follows runs =
        begun (old_speed card signal) after.start (curve_begins card signal reading) runs
        ((ran runs).0 ∙ ap (λ curve. curve.start) begun_or_none)
