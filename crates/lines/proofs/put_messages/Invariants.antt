-- What is left, written from `to` on, makes the whole.
use Rattle.std.proofs.Common.{◌≡◌, ◌+◌, ◌≤◌, length, drop}
use mathlib.Core.List.{flatten}
use Rattle.layout.specs.Layout.{written}
use Rattle.lines.specs.Lines.{lines}
use Rattle.lines.proofs.put_messages.Given as goal

abbrev pub invariant-loop-byte : goal.invariant-loop-byte
invariant-loop-byte l =
    (length l.table ≡ length l.initial.table)
    × (l.to + length (flatten (lines (drop l.byte-index l.text))) ≤ length l.table)
    × (written l.table l.to (flatten (lines (drop l.byte-index l.text))) ≡ written l.initial.table l.from (flatten (lines l.text)))
