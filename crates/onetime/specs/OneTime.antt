-- Step 8: one-time vigilance.
use Rattle.std.specs.Prelude.{ℕ, ◌+◌, ◌*◌, Bool, not, ◌&&◌, ◌||◌, cond, ltb, leb, eqb}
use Rattle.card.specs.declared.Card.{Card}
use Rattle.card.specs.Card.{beyond}
use Rattle.record.specs.declared.Keys.{Keys}
use Rattle.signal.specs.declared.Curve.{Curve}
use Rattle.signal.specs.Value.{curve_value}
use Rattle.signal.specs.Speed.{curve_runs}
use Rattle.onetime.specs.declared.Prompt.{Prompt}
use Rattle.onetime.specs.declared.OneTimeStep.{OneTimeStep}

-- lead R is 150 when set ≤ 1000, else 100
unfoldable pub lead : Card → ℕ
lead card = cond (leb card.set 1000) 150 100

-- D: v exceeds the curve's value by more than the tolerance, at a distance: E plus v times the ticks ahead
unfoldable pub exceeds : Card → Curve → ℕ → ℕ → ℕ → Bool
exceeds card curve t v driven = beyond card (curve_value card curve t driven) v

-- u is above 0: of the old one in step 8, of the new one in the marks
abbrev pub prompting : Prompt → Bool
prompting old = ltb 0 old.ticks

-- the grown u counts
abbrev pub expires : Prompt → Bool
expires old = leb 35 (old.ticks + 1)

-- a vigilance press makes it 0; else it grows, and from 35 it triggers NZ1 and becomes 0; a prompt outlives its curve
unfoldable pub prompt_lapses : Keys → Prompt → Bool
prompt_lapses keys old = prompting old && not keys.vigilance && expires old

unfoldable pub prompt_stays : Keys → Prompt → Bool
prompt_stays keys old = prompting old && not keys.vigilance && not (expires old)

-- curve, t: the curve and T as steps 2 to 5 leave them; begins: the curve began this tick
module _ (card : Card) (curve : Curve) (t v : ℕ) where
  -- w = 0 and D at E + v·R
  unfoldable pub due_ahead : Bool
  due_ahead = eqb curve.prompted 0 && exceeds card curve t v (curve.driven + v * lead card)

  -- the curve began this tick, not D at v·(99 + R), and v > T + tolerance
  unfoldable pub due_at_start : Bool → Bool
  due_at_start begins = begins && not (exceeds card curve t v (v * (99 + lead card))) && beyond card t v

module _ (card : Card) (curve : Curve) (begins : Bool) (t v : ℕ) (keys : Keys) (old : Prompt) where
  -- u was 0 and a curve runs
  abbrev pub may_ask : Bool
  may_ask = not (prompting old) && curve_runs curve

  -- kind 1
  unfoldable pub asks_ahead : Bool
  asks_ahead = may_ask && due_ahead card curve t v

  -- else kind 0
  unfoldable pub asks_at_start : Bool
  asks_at_start = may_ask && not asks_ahead && due_at_start card curve t v begins

  unfoldable pub prompt_ticks_next : ℕ
  prompt_ticks_next = cond (prompt_stays keys old) (old.ticks + 1) (cond (asks_ahead || asks_at_start) 1 0)

  -- when u is 0 its kind is 0
  unfoldable pub prompt_kind_next : ℕ
  prompt_kind_next = cond (prompt_stays keys old) old.kind (cond asks_ahead 1 0)

  unfoldable pub prompted_next : ℕ
  prompted_next = cond asks_ahead 1 curve.prompted

  abbrev pub step_8_one_time : OneTimeStep
  step_8_one_time = record { prompt = record { ticks = prompt_ticks_next; kind = prompt_kind_next }; prompted = prompted_next; lapses = prompt_lapses keys old }
