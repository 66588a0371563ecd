-- `reasons_of` hands on for each cause what it asks of every cause.
use Rattle.causes.specs.Cause.{NZ1, NZ2, NZ3, NZ4, NZ5, among}
use Rattle.why.specs.Told.{start_of}
use Rattle.why.proofs.reasons_of.Goals as goal

pub reason_of-requires : goal.reason_of-requires
unfolding among start_of
reason_of-requires c = c.requires NZ1

pub reason_of-requires-2 : goal.reason_of-requires-2
unfolding among start_of
reason_of-requires-2 c = c.requires NZ2

pub reason_of-requires-3 : goal.reason_of-requires-3
unfolding among start_of
reason_of-requires-3 c = c.requires NZ3

pub reason_of-requires-4 : goal.reason_of-requires-4
unfolding among start_of
reason_of-requires-4 c = c.requires NZ4

pub reason_of-requires-5 : goal.reason_of-requires-5
unfolding among start_of
reason_of-requires-5 c = c.requires NZ5
