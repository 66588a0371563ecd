-- A bit of a number, by its weight.
use Rattle.std.specs.Prelude.{ℕ, ◌/◌, ◌%◌, Bool, eqb}

abbrev pub bit_on : ℕ → ℕ → Bool
bit_on bits weight = eqb (bits / weight % 2) 1
