-- By the offsets of the lines left, those of the first line in front.
use Rattle.std.proofs.Common.{◌+◌, ◌-◌, List, ℕ, length, drop, arith, sym, ap, ◌∙◌}
use Rattle.layout.specs.Layout.{u16_bytes, written}
use Rattle.layout.proofs.Written.{written-append}
use Rattle.lines.specs.Lines.{lines}
use Rattle.lines.specs.Table.{offsets}
use Rattle.lines.proofs.Offsets.{bytes_turn, offsets_turn, offsets_past, offsets_some}
use Rattle.lines.proofs.put_offsets.Goals as goal

pub put_u16-requires : goal.put_u16-requires
put_u16-requires c = let room = offsets_some (lines (drop c.loop-at.at c.args.text.now)) c.loop-at.offset in omega arith

pub loop-at-preserved : goal.loop-at-preserved
loop-at-preserved c =
    let head = c.loop-at in
    let text = c.args.text.now in
    let end = c.line_end-end.result in
    let on = offsets_turn text head.at end c.loop-at-test.true c.line_end-end.ensures.0 head.offset in
    let bytes = bytes_turn text head.at end c.loop-at-test.true c.line_end-end.ensures.0 in
    let longer = ap length on in
    let rest = offsets (head.offset + (end - head.at)) (lines (drop (end + 1) text)) in (
      c.put_u16.auto.bytes ∙ head.invariant.0,
      omega arith,
      rw c.put_u16.auto.bytes (omega arith),
      ap (λ (t : List ℕ). written t (head.place + 2) rest) c.put_u16.ensures
          ∙ written-append head.table head.place (u16_bytes head.offset) rest (omega arith)
          ∙ sym (ap (written head.table head.place) on)
          ∙ head.invariant.3,
    )

pub put_u16-requires-2 : goal.put_u16-requires-2
put_u16-requires-2 c = let room = offsets_some (lines (drop c.loop-at.at c.args.text.now)) c.loop-at.offset in omega arith

pub returns : goal.returns
returns c =
    let head = c.loop-at in
    let last = offsets_past c.args.text.now head.at head.offset c.loop-at-test.false in
    c.put_u16-2.ensures ∙ sym (ap (written head.table head.place) last) ∙ head.invariant.3
