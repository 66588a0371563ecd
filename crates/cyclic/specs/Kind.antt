-- The kinds of cyclic vigilance by their numbers.
use Rattle.std.specs.Prelude.{ℕ}
use Rattle.cyclic.specs.declared.Kind.{Kind}
use Rattle.cyclic.specs.declared.Kind.TheVariants.{None, Ordinary, Increased}
use Rattle.cyclic.specs.Ranges.{ordinary, increased}

unfoldable pub number : Kind → ℕ
number None = 0
number Ordinary = ordinary
number Increased = increased
