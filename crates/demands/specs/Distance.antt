-- Request 2: a standing train does not use up its curve. What the curve's value is, and what an accepted tick does to the curve.
-- V0 and E are `start` and `driven` of the desk's curve. That the signal speed, and so P, goes by the value is demand 2.
use Rattle.std.specs.Prelude.{ℕ, ◌+◌, ◌-◌, ◌*◌, ◌≤◌, ◌<◌, ◌≡◌, false, ◌⊎◌, List}
use Rattle.record.specs.declared.Sample.{Sample}
use Rattle.record.specs.declared.Keys.{Keys}
use Rattle.record.specs.Modes.{pre}
use Rattle.record.specs.Flags.{keys_of}
use Rattle.record.specs.Sample.{sample_record}
use Rattle.codes.specs.Target.{target}
use Rattle.signal.specs.declared.Curve.{Curve}
use Rattle.signal.specs.Value.{Largest, curve_bound, curve_value}
use Rattle.signal.specs.Speed.{signal_speed}
use Rattle.desk.specs.declared.Desk.{Desk}
use Rattle.desk.specs.declared.Outcome.{Outcome}
use Rattle.demands.specs.Ranges.{DeskFits}
use Rattle.demands.specs.Functions.{Functions}

abbrev pub curve_of : Desk → Curve
curve_of desk = desk.state.signal.curve

-- a curve runs
abbrev pub Runs : Desk → Type 0
Runs desk = 0 < (curve_of desk).start

-- max(5·T², 5·V0² − r·E) for a T, and the curve's value
abbrev pub bound_at : Desk → ℕ → ℕ
bound_at desk T = curve_bound desk.card (curve_of desk) T (curve_of desk).driven

abbrev pub value_at : Desk → ℕ → ℕ
value_at desk T = curve_value desk.card (curve_of desk) T (curve_of desk).driven

-- T of the code before the tick, and the signal speed then
abbrev pub old_target : Desk → ℕ
old_target desk = target desk.card desk.state.signal.codes.last desk.state.signal.codes.raise

abbrev pub old_speed : Desk → ℕ
old_speed desk = signal_speed desk.card (curve_of desk) desk.state.signal.man (old_target desk)

abbrev pub keys_in : Desk → Sample → Keys
keys_in desk sample = keys_of sample.flags desk.state.buttons

abbrev pub v : Sample → ℕ
v sample = (sample_record sample).v

-- a tick under the code of the tick before: the desk before it, its sample, the desk after it, and T of its answer
pub record SameCode (desk : Desk) (sample : Sample) (after : Desk) (T : ℕ) : Type 0 where
  -- a curve that goes on: E grows by v, and the value for any one T does not rise
  pub grows : Runs after → ((curve_of after).start ≡ (curve_of desk).start) × ((curve_of after).driven ≡ (curve_of desk).driven + v sample)
  pub never_rises : Runs after → (S : ℕ) → S ≤ 2500 → value_at after S ≤ value_at desk S
  -- and so at v = 0 E and the value stay
  pub standing_keeps : Runs after → v sample ≡ 0 →
      ((curve_of after).driven ≡ (curve_of desk).driven) × ((S : ℕ) → value_at after S ≡ value_at desk S)
  -- where r·E, with this tick's v in E, is 5·(V0² − T²) or more, it has ended
  pub has_ended : 5 * ((curve_of desk).start * (curve_of desk).start - T * T) ≤ desk.card.deceleration * ((curve_of desk).driven + v sample)
      → Runs after → ⊥
  -- it does not end at a stand: while PRE is asked, without a press of PLUS or MAN and without adhesion loss, one whose value is above T goes on
  pub stays : sample.mode ≡ pre → v sample ≡ 0 → (keys_in desk sample).plus ≡ false → (keys_in desk sample).man ≡ false
      → (keys_in desk sample).loss ≡ false → Runs desk → old_target desk < value_at desk (old_target desk) → Runs after

-- a tick under a new code, with MAN off or ended by it
pub record NewCurve (desk after : Desk) : Type 0 where
  -- the first tick of a curve is not counted, and it starts from the old signal speed, without this tick's v
  pub first : (curve_of after).driven ≡ 0
  pub follows : Runs after → (curve_of after).start ≡ old_speed desk

pub record Distance (F : Functions) : Type 0 where
  -- the value of a desk's curve is the largest w with 5·w² ≤ the bound
  pub largest : (desk : Desk) → DeskFits desk → (T : ℕ) → T ≤ 2500 → Largest (bound_at desk T) (value_at desk T)
  -- a curve that runs after a tick is above T: it ends as soon as its value is T
  pub above : (desk : Desk) (sample : Sample) (journal : List ℕ) (out : Outcome) (left : List ℕ) → F.ticks desk sample journal out left
      → out.refusal ≡ 0 → Runs out.desk → out.answer.target < value_at out.desk out.answer.target
  -- in PRE
  pub same_code : (desk : Desk) (sample : Sample) (journal : List ℕ) (out : Outcome) (left : List ℕ) → F.ticks desk sample journal out left
      → out.refusal ≡ 0 → desk.state.mode ≡ pre → sample.code ≡ desk.state.signal.codes.last
      → SameCode desk sample out.desk out.answer.target
  pub new_code : (desk : Desk) (sample : Sample) (journal : List ℕ) (out : Outcome) (left : List ℕ) → F.ticks desk sample journal out left
      → out.refusal ≡ 0 → desk.state.mode ≡ pre → (sample.code ≡ desk.state.signal.codes.last → ⊥)
      → (desk.state.signal.man ≡ 0) ⊎ (v sample < target desk.card sample.code 0) → NewCurve desk out.desk
