-- By the byte that stands at `at`.
use Rattle.std.proofs.Common.{sym, ◌∙◌, arith}
use mathlib.Core.List.{flatten}
use Rattle.layout.proofs.Written.{written-nil}
use Rattle.lines.proofs.Split.{lines_past}
use Rattle.lines.proofs.put_messages.Goals as goal

pub returns : goal.returns
unfolding flatten
returns c =
    let none = lines_past c.args.text.now c.loop-byte.byte-index (omega arith) in
    sym (written-nil _ _) ∙ rw none at c.loop-byte.invariant.2
