-- Proved: the test of a prompt says that it is in range, and the other way round.
-- The test taken apart into its facts, each an order that `omega` hands on. Assumes nothing.
use mathlib.Core.Path.{◌≡◌}
use mathlib.Core.Bool.{true}
use native.Mathlib.Omega.{arith}
use denote.Struct.Props.{props}
use Rattle.ranges.specs.Ranged.{RangedLaws}
use Rattle.numbers.proofs.Tests.{and_iff, leb_iff}
use Rattle.onetime.specs.declared.Prompt.{Prompt}
use Rattle.onetime.specs.Ranges.{PromptRanges, prompt_in_range}

pub prompt_ranges : (o : Prompt) → prompt_in_range o ≡ true → PromptRanges o
prompt_ranges o h = omega (arith, simp (and_iff, leb_iff) at h)

pub ranges_prompt : (o : Prompt) → PromptRanges o → prompt_in_range o ≡ true
ranges_prompt o h = simp (and_iff, leb_iff) (omega arith)

pub prompt_laws : RangedLaws PromptRanges prompt_in_range
prompt_laws = record { tested = prompt_ranges; tests = ranges_prompt; one_proof = λ o. Prim.hlevel props }
