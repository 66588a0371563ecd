-- Of each cause a tick.
use Rattle.std.specs.Prelude.{ℕ}
use Rattle.causes.specs.declared.PerCause.{PerCause}

abbrev pub Starts : Type 0
Starts = PerCause ℕ
