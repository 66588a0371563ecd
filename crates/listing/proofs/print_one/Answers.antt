-- The text that the call answers, or the number of its refusal.
use Rattle.listing.proofs.Told.{one_text, one_refused}
use Rattle.listing.proofs.print_one.Goals as goal

pub returns-in-Ok : goal.returns-in-Ok
returns-in-Ok g c =
    let told = c.in-Ok.ensures in
    record { bytes = rw (one_text c.args.tables.first c.args.tables.second _ _ c.in-Ok.text told.refusal told.bytes) c.write_all.ensures.bytes }

pub returns-in-Err : goal.returns-in-Err
returns-in-Err g c =
    record { bytes = rw (one_refused c.args.tables.first c.args.tables.second _ _ c.in-Err.refusal c.in-Err.ensures.refusal) c.print_refused.ensures.bytes }
