-- One number more by `spaced_more`.
use Rattle.std.proofs.Common.{arith, length-set, refl}
use Rattle.line.specs.Line.{space, spaced}
use Rattle.line.proofs.Put.{put, put_none, put_one, put_then, spaced_more}
use Rattle.line.proofs.put_spaced.Goals as goal

pub loop-x-init : goal.loop-x-init
unfolding spaced
loop-x-init c = (omega arith, refl, put_none _ _)

pub loop-x-preserved : goal.loop-x-preserved
loop-x-preserved c =
    let head = c.loop-x in
    let same = length-set head.out head.at space in
    let one = put_then (omega arith) (put_one head.out head.at space (omega arith)) (put c.put_decimal-at.ensures) in
    let more = put_then (omega arith) head.invariant.2 one in
    (omega arith, omega arith, rw (spaced_more c.args.numbers.now head.x-index c.loop-x-test.true) at more)
