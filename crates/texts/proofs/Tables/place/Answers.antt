-- A language that is spoken has its table; of any other nothing is looked up.
use Rattle.std.proofs.Common.{◌≡◌, Err, rules}
use Rattle.texts.proofs.Placed.{place_unspoken, place_spoken}
use Rattle.texts.proofs.Tables.place.Goals as goal

pub returns-in_err-try_from : goal.returns-in_err-try_from
returns-in_err-try_from c =
    let same : c.from_residual.result ≡ Err c.in_err-try_from.field-0.0 = search rules in
    let unspoken = c.in_err-try_from.ensures in
    rw (same, unspoken.0) (place_unspoken c.args.self.first c.args.self.second c.args.language c.args.number unspoken.1)

pub returns : goal.returns
returns c = place_spoken _ _ _ _ _ _ c.in_ok-try_from.ensures c.of.ensures _ c.place_in.ensures
