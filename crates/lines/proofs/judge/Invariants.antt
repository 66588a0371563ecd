-- What is made of the text is what is made of the lines left, after those passed; the measure is what is left of the text.
use Rattle.std.proofs.Common.{◌≡◌, ◌+◌, ◌-◌, ◌≤◌, length, drop}
use Rattle.texts.specs.Table.{most_messages, most_bytes, header_width}
use Rattle.lines.specs.Lines.{lines}
use Rattle.lines.specs.Made.{made_after, made}
use Rattle.lines.proofs.judge.Given as goal

abbrev pub invariant-loop-at : goal.invariant-loop-at
invariant-loop-at l =
    (l.count ≤ most_messages) × (header_width l.count + l.bytes ≤ most_bytes) × (made l.text ≡ made_after l.count l.bytes (lines (drop l.at l.text)))

abbrev pub decreases-loop-at : goal.decreases-loop-at
decreases-loop-at l = length l.text - l.at
