-- `width_at` gives the width of the encoding that begins at a place, nothing where none does: each way out by the law of the rows that were tried on it.
use Rattle.std.proofs.Common.{rules, sym, ◌∙◌}
use borrow.Author.Tests.{le-leb, lt-leb}
use Rattle.utf8.specs.Rows.{one}
use Rattle.utf8.proofs.Width.{width_one, width_two, width_three, width_four, width_none}
use Rattle.utf8.proofs.width_at.Goals as goal

pub returns-then-a-le127 : goal.returns-then-a-le127
unfolding one
returns-then-a-le127 c = (width_one _ c.byte_within-a.ensures (le-leb _ _ c.if-a-le127.true), search rules, search rules)

pub returns-then-two : goal.returns-then-two
unfolding one
returns-then-two c =
    let not_one = lt-leb _ _ c.if-a-le127.false in
    (width_two _ c.byte_within-a.ensures c.byte_within-b.ensures not_one (sym c.two.ensures ∙ c.if-two.true), search rules, search rules)

pub returns-then-three : goal.returns-then-three
unfolding one
returns-then-three c =
    let not_one = lt-leb _ _ c.if-a-le127.false in
    let not_two = sym c.two.ensures ∙ c.if-two.false in
    let is_three = sym c.three.ensures ∙ c.if-three.true in
    (width_three _ c.byte_within-a.ensures c.byte_within-b.ensures not_one c.byte_within-c.ensures not_two is_three, search rules, search rules)

pub returns-then-four : goal.returns-then-four
unfolding one
returns-then-four c =
    let not_one = lt-leb _ _ c.if-a-le127.false in
    let not_two = sym c.two.ensures ∙ c.if-two.false in
    let not_three = sym c.three.ensures ∙ c.if-three.false in
    let is_four = sym c.four.ensures ∙ c.if-four.true in
    let tried = width_four _ c.byte_within-a.ensures c.byte_within-b.ensures not_one c.byte_within-c.ensures not_two in
    (tried c.byte_within.ensures not_three is_four, search rules, search rules)

pub returns : goal.returns
unfolding one
returns c =
    let not_one = lt-leb _ _ c.if-a-le127.false in
    let not_two = sym c.two.ensures ∙ c.if-two.false in
    let not_three = sym c.three.ensures ∙ c.if-three.false in
    let not_four = sym c.four.ensures ∙ c.if-four.false in
    let tried = width_none _ c.byte_within-a.ensures c.byte_within-b.ensures not_one c.byte_within-c.ensures not_two in
    sym (tried c.byte_within.ensures not_three not_four)
