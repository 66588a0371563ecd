-- The first refusal of two, by what each call for message 0 answers.
use Rattle.std.proofs.Common.{◌≡◌, Err, rules}
use Rattle.refusal.specs.Number.{number_of}
use Rattle.listing.proofs.Told.{first_bad, second_told}
use Rattle.listing.proofs.both_good.Goals as goal

pub returns-in_err-text : goal.returns-in_err-text
unfolding number_of
returns-in_err-text c =
    let same : c.from_residual.result ≡ Err c.in_err-text.field-0.0 = search rules in
    rw same (first_bad _ _ c.in_err-text.field-0.0 c.in_err-text.ensures.refusal)

pub returns-in_err-text-2 : goal.returns-in_err-text-2
unfolding number_of
returns-in_err-text-2 c =
    let same : c.from_residual-in_err-text-2.result ≡ Err c.in_err-text-2.field-0.0 = search rules in
    rw same (second_told _ _ _ c.in_ok-text.ensures.refusal c.in_err-text-2.ensures.refusal)

pub returns : goal.returns
unfolding number_of
returns c = second_told _ _ _ c.in_ok-text.ensures.refusal c.in_ok-text-2.ensures.refusal
