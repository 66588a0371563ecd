-- A yes or no for each cause.
use Rattle.std.specs.Prelude.{Bool}
use Rattle.causes.specs.declared.PerCause.{PerCause}

abbrev pub Causes : Type 0
Causes = PerCause Bool
