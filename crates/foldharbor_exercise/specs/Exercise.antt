-- What the host program gets of an exercise: the tick count, or 10,000 plus the refusal's number.
use Rattle.std.specs.Prelude.{ℕ, ◌+◌, cond, eqb}
use Rattle.file.specs.declared.Total.{Total}

unfoldable pub host_number : Total → ℕ
host_number ran = cond (eqb ran.refusal 0) ran.ticks (10000 + ran.refusal)
