-- Step 8 keeps one-time vigilance in range.
-- Each choice is bounded arm by arm; an arm that counts on by its own test. Assumes nothing.
use Prim.Native.Nat.{ℕ, ◌+◌, ◌≤◌}
use mathlib.Core.Path.{◌≡◌, refl}
use mathlib.Core.Bool.{Bool, true, false, ◌||◌, cond}
use native.Mathlib.Omega.{arith}
use borrow.Author.Tests.{leb-false}
use Rattle.numbers.proofs.Choice.{most_iff}
use Rattle.numbers.proofs.Tests.{and_iff, not_iff}
use Rattle.card.specs.declared.Card.{Card}
use Rattle.record.specs.declared.Keys.{Keys}
use Rattle.signal.specs.declared.Curve.{Curve}
use Rattle.onetime.specs.declared.Prompt.{Prompt}
use Rattle.onetime.specs.Ranges.{most_prompt, OneTimeStepRanges}
use Rattle.onetime.specs.OneTime.{prompt_stays, asks_ahead, asks_at_start, prompt_ticks_next, prompt_kind_next, prompted_next, step_8_one_time}

module _ (card : Card) (curve : Curve) (begins : Bool) (t v : ℕ) (k : Keys) (o : Prompt) where
  pub prompt_ticks_most : prompt_ticks_next card curve begins t v k o ≤ most_prompt
  unfolding prompt_ticks_next prompt_stays
  prompt_ticks_most = simp (most_iff, and_iff, not_iff) (omega (arith, leb-false))

  pub prompt_kind_most : o.kind ≤ 1 → prompt_kind_next card curve begins t v k o ≤ 1
  unfolding prompt_kind_next
  prompt_kind_most p = simp most_iff (omega arith)

  pub prompted_next_most : curve.prompted ≤ 1 → prompted_next card curve begins t v k o ≤ 1
  unfolding prompted_next
  prompted_next_most p = simp most_iff (omega arith)

  pub step_8_one_time_ranges : curve.prompted ≤ 1 → o.kind ≤ 1 → OneTimeStepRanges (step_8_one_time card curve begins t v k o)
  step_8_one_time_ranges p q = omega (arith, prompt_ticks_most, prompt_kind_most q, prompted_next_most p)

  -- when u is 0 its kind is 0
  pub kind_quiet : prompt_ticks_next card curve begins t v k o ≡ 0 → prompt_kind_next card curve begins t v k o ≡ 0
  unfolding prompt_ticks_next prompt_kind_next
  kind_quiet e = go (prompt_stays k o) (asks_ahead card curve begins t v k o) (asks_at_start card curve begins t v k o) e
    where
      go : (stays ahead start : Bool) → ◌≡◌ {A = ℕ} (cond stays (o.ticks + 1) (cond (ahead || start) 1 0)) 0
          → cond stays o.kind (cond ahead 1 0) ≡ 0
      go true ahead start z = absurd (omega arith)
      go false true start z = absurd (omega arith)
      go false false start z = refl
