-- The float that 32 bits stand for.
use Rattle.std.specs.Prelude.{ℕ, Float}
use Rattle.std.specs.Float.{binary32}
use Rattle.std.specs.Float.Ieee.{of_bits}

-- as IEEE 754 has it; there is one NaN, which every pattern of a NaN stands for
abbrev pub float_of_bits : ℕ → Float
float_of_bits bits = of_bits binary32 bits
