-- What `==` compares of a kind is its number.
-- By cases. Assumes nothing.
use mathlib.Core.Path.{◌≡◌, refl}
use denote.Enum.Declared.{tag_of}
use Rattle.cyclic.specs.declared.Kind.{Kind}
use Rattle.cyclic.specs.declared.Kind.TheVariants.{None, Ordinary, Increased}
use Rattle.cyclic.specs.contracts.Kind.{the_type}
use Rattle.cyclic.specs.Kind.{number}

pub tag_number : (k : Kind) → tag_of the_type k ≡ number k
unfolding number
tag_number None = refl
tag_number Ordinary = refl
tag_number Increased = refl
