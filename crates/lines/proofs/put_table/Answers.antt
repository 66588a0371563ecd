-- Count, offsets and messages one behind the other are the table.
use Rattle.std.proofs.Common.{arith}
use Rattle.lines.specs.Lines.{lines}
use Rattle.lines.proofs.Offsets.{offsets_length, table_written}
use Rattle.lines.proofs.put_table.Goals as goal

pub put_offsets-requires : goal.put_offsets-requires
put_offsets-requires c =
    let long = offsets_length (lines c.args.text.now) c.header_width-header.result in
    omega (arith, c.header_width-header.ensures, c.put_u16.auto.bytes, c.requires)

pub returns : goal.returns
returns c =
    table_written _ _ _ _ _ _ _ c.requires c.header_width-header.ensures c.put_u16.ensures c.put_offsets.ensures c.put_messages.ensures
