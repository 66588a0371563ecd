-- No byte below the weight (`put_none`), else one (`put_one`).
use Rattle.std.proofs.Common.{◌+◌, ◌/◌, ◌%◌, rules}
use borrow.Author.Tests.{lt-ltb, le-ltb}
use Rattle.line.specs.Line.{digit_at}
use Rattle.line.proofs.Put.{put_none, put_one}
use Rattle.line.proofs.put_digit.Goals as goal

pub returns-then-x-weight : goal.returns-then-x-weight
unfolding digit_at
returns-then-x-weight c =
    let p = put_none c.args.out.now c.args.at in
    simp (lt-ltb _ _ c.if-x-weight.true) (record { place = (p.place, search rules); text = p.list })

pub returns : goal.returns
unfolding digit_at
returns c =
    let a = c.args in
    let p = put_one a.out.now a.at (48 + a.x / a.weight % 10) c.requires.0 in
    simp (le-ltb _ _ c.if-x-weight.false) (record { place = (p.place, search rules); text = p.list })
