-- `put_bytes` writes the array over as many bytes.
use Rattle.layout.proofs.Written.{part_written}
use Rattle.layout.proofs.put_bytes.Goals as goal

pub returns : goal.returns
returns g c = part_written _ _ _ c.args.at g.row.N c.requires c.copy_from_slice.ensures.len c.copy_from_slice.ensures.after
