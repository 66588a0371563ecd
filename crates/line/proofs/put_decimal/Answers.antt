-- Four digits and the last one put one behind the other are put as one (`put_four`, `put_then`); there is room for all five.
use Rattle.std.proofs.Common.{◌+◌, ◌%◌, rules}
use Rattle.line.specs.Line.{decimal}
use Rattle.line.proofs.Put.{put, put_one, put_then, put_four}
use Rattle.line.proofs.put_decimal.Goals as goal

pub returns : goal.returns
unfolding decimal
returns c =
    let p4 =
    put_four (search rules) (put c.put_digit-a.ensures) (put c.put_digit-b.ensures) (put c.put_digit-c.ensures) (put c.put_digit-d.ensures) in
    let last = put_one c.put_digit-d.new.out c.put_digit-d.result (48 + c.args.x % 10) (search rules) in
    let p5 = put_then (search rules) p4 last in
    record { place = (p5.place, search rules); text = p5.list }
