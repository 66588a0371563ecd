-- Each field is read from its place.
use Rattle.std.proofs.Common.{ap, ◌∙◌}
use native.Mathlib.Nat.{add-zero}
use Rattle.script.specs.Sample.{u32_at, sample_at}
use Rattle.script.proofs.sample_at.Goals as goal

pub returns : goal.returns
unfolding sample_at
returns c =
    let first = c.u32_at.ensures ∙ ap (u32_at c.args.bytes.now) (add-zero c.args.at) in
    rw (← first, ← c.float_of_bits.ensures, ← c.u32_at-2.ensures, ← c.float_of_bits-2.ensures)
    (rw (← c.byte_at.ensures, ← c.byte_at-2.ensures, ← c.byte_at-3.ensures, ← c.byte_at-4.ensures, ← c.byte_at-5.ensures))
