-- By the law of a turn, proofs/Judged.antt: the tests of a line, one after the other.
use Rattle.std.proofs.Common.{◌+◌, ◌-◌, ◌≤◌, sym, ◌∙◌, arith}
use borrow.Author.Tests.{le-ltb, eqb-true, eqb-false}
use Rattle.numbers.proofs.Tests.{decided}
use Rattle.utf8.proofs.Utf8.{utf8?}
use Rattle.texts.specs.Table.{most_messages, most_bytes, header_width}
use Rattle.lines.proofs.Judged.{made_none, made_some, turn, ended}
use Rattle.lines.proofs.judge.Goals as goal

pub returns-then-is_empty : goal.returns-then-is_empty
returns-then-is_empty c = rw c.in_line.ensures (sym (made_none _ (eqb-true _ _ (sym c.is_empty.ensures ∙ c.if-is_empty.true))))

pub loop-at-init : goal.loop-at-init
loop-at-init c = (omega arith, omega arith, made_some _ (eqb-false _ _ (sym c.is_empty.ensures ∙ c.if-is_empty.false)))

pub returns-then-not-is_utf8 : goal.returns-then-not-is_utf8
returns-then-not-is_utf8 c =
    let head = c.loop-at in
    let on = turn c.args.text.now head.at c.line_end-end.result head.count head.bytes c.loop-at-test.true c.line_end-end.ensures.0 in
    let few : head.count + 1 ≤ most_messages = omega arith in
    let fits : header_width (head.count + 1) + head.bytes + (c.line_end-end.result - head.at) ≤ most_bytes = omega arith in
    let bad = sym (decided (utf8? _) _ c.is_utf8.ensures) ∙ c.if-not-is_utf8.true in
    rw c.in_line-then-not-is_utf8.ensures (sym (head.invariant.2 ∙ on ∙ rw (le-ltb _ _ few, le-ltb _ _ fits, bad)))

pub loop-at-preserved : goal.loop-at-preserved
loop-at-preserved c =
    let head = c.loop-at in
    let on = turn c.args.text.now head.at c.line_end-end.result head.count head.bytes c.loop-at-test.true c.line_end-end.ensures.0 in
    let few : head.count + 1 ≤ most_messages = omega arith in
    let fits : header_width (head.count + 1) + head.bytes + (c.line_end-end.result - head.at) ≤ most_bytes = omega arith in
    let good = sym (decided (utf8? _) _ c.is_utf8.ensures) ∙ c.if-not-is_utf8.false in (
      few,
      omega arith,
      head.invariant.2 ∙ on ∙ rw (le-ltb _ _ few, le-ltb _ _ fits, good),
    )

pub returns : goal.returns
returns c =
    let head = c.loop-at in
    rw c.header_width-2.ensures (sym (head.invariant.2 ∙ ended c.args.text.now head.at head.count head.bytes c.loop-at-test.false))
