-- A part that is found is handed on with its address. Of a refusal it is the head of the chosen table, where a refused place begins too;
-- the table that the `if` takes is the chosen one, which the search finds.
use native.Mathlib.Nat.{zero-add}
use Rattle.std.proofs.Common.{◌≡◌, ◌∙◌, rules}
use Rattle.refusal.specs.Number.{number_of}
use Rattle.texts.specs.Text.{chosen}
use Rattle.texts.proofs.Placed.{refused_start}
use Rattle.texts.proofs.text.Goals as goal

pub returns-in-Ok-clause-refusal : goal.returns-in-Ok-clause-refusal
unfolding number_of
returns-in-Ok-clause-refusal c = c.in-Ok.ensures.refusal

pub returns-after-language-eq2-clause-address : goal.returns-after-language-eq2-clause-address
unfolding number_of
returns-after-language-eq2-clause-address c =
    let same : c.if-language-eq2.table ≡ chosen c.args.language c.args.first c.args.second = search rules in
    rw (same, refused_start _ _ _ c.in-Err.refused c.in-Err.ensures.refusal, zero-add)

pub returns-after-language-eq2-clause-refusal : goal.returns-after-language-eq2-clause-refusal
unfolding number_of
returns-after-language-eq2-clause-refusal c = c.from.ensures ∙ c.in-Err.ensures.refusal
