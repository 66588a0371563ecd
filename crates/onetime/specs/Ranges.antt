-- What the desk holds of one-time vigilance: its zeros, and its ranges, as facts and as the test that the code makes.
use Rattle.std.specs.Prelude.{ℕ, ◌≤◌, Bool, ◌&&◌, leb}
use Rattle.onetime.specs.declared.Prompt.{Prompt}
use Rattle.onetime.specs.declared.OneTimeStep.{OneTimeStep}

abbrev pub most_prompt : ℕ
most_prompt = 35

abbrev pub no_prompt : Prompt
no_prompt = record { ticks = 0; kind = 0 }

pub record PromptRanges (prompt : Prompt) : Type 0 where
  pub ticks_most : prompt.ticks ≤ most_prompt
  pub kind_most : prompt.kind ≤ 1

pub record OneTimeStepRanges (step : OneTimeStep) : Type 0 where
  pub prompt : PromptRanges step.prompt
  pub prompted_most : step.prompted ≤ 1

abbrev pub prompt_in_range : Prompt → Bool
prompt_in_range prompt = leb prompt.ticks most_prompt && leb prompt.kind 1
