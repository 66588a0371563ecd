-- What is left, written from `place` on, makes the whole, and the last offset fits a u16; the measure is what is left of the text.
use Rattle.std.proofs.Common.{◌≡◌, ◌+◌, ◌-◌, ◌≤◌, length, drop}
use mathlib.Core.List.{flatten}
use Rattle.layout.specs.Layout.{written}
use Rattle.texts.specs.Table.{most_bytes}
use Rattle.lines.specs.Lines.{lines}
use Rattle.lines.specs.Table.{offsets}
use Rattle.lines.proofs.put_offsets.Given as goal

abbrev pub invariant-loop-at : goal.invariant-loop-at
invariant-loop-at l =
    (length l.table ≡ length l.initial.table)
    × (l.offset + length (flatten (lines (drop l.at l.text))) ≤ most_bytes)
    × (l.place + length (offsets l.offset (lines (drop l.at l.text))) ≤ length l.table)
    × (written l.table l.place (offsets l.offset (lines (drop l.at l.text))) ≡ written l.initial.table 2 (offsets l.first (lines l.text)))

abbrev pub decreases-loop-at : goal.decreases-loop-at
decreases-loop-at l = length l.text - l.at
