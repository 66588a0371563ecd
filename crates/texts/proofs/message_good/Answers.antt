-- The test of one message: its two offsets, and `is_utf8`, which decides what `utf8?` does.
use mathlib.Core.Path.{ap₂}
use Rattle.std.proofs.Common.{◌&&◌}
use lib.Dec.{leb}
use Rattle.numbers.proofs.Tests.{decided}
use Rattle.utf8.proofs.Utf8.{utf8?}
use Rattle.texts.specs.Table.{message, message_good}
use Rattle.texts.proofs.message_good.Goals as goal

pub returns : goal.returns
unfolding message_good
returns c =
    let start = c.offset-start.ensures in
    let end = c.offset-end.ensures in
    let well_formed = decided (utf8? (message c.args.table.now c.args.i)) _ (rw (start, end) at c.is_utf8.ensures) in
    ap₂ ◌&&◌ (ap₂ leb start end) well_formed
