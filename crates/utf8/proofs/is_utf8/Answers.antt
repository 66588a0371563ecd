-- `is_utf8` says yes exactly where the bytes are UTF-8, by the laws of one step, proofs/Utf8.antt.
use Rattle.std.proofs.Common.{refl, arith}
use mathlib.Core.Logic.Iff
use mathlib.Core.Bool.{false≢true}
use Rattle.utf8.proofs.Utf8.{utf8_nil, utf8_none, utf8_on}
use Rattle.layout.proofs.Slices.{none_left}
use Rattle.utf8.proofs.is_utf8.Goals as goal

pub returns-in_default : goal.returns-in_default
returns-in_default c =
    let none = utf8_none _ _ _ (omega arith) c.loop-at-test.true c.in_default.ensures in
    (λ e. absurd (false≢true e), λ u. absurd (none (c.loop-at.invariant.0 u)))

pub loop-at-preserved : goal.loop-at-preserved
loop-at-preserved c =
    Iff.trans c.loop-at.invariant (utf8_on _ _ _ (omega arith) c.loop-at-test.true _ c.in-Some.ensures.0 (omega arith))

pub returns : goal.returns
returns c =
    let end = none_left c.args.bytes.now c.loop-at.at _ c.loop-at-test.false in
    (λ e. c.loop-at.invariant.1 (rw end utf8_nil), λ u. refl)
