-- The codes by their names.
use Rattle.std.specs.Prelude.{ℕ}

abbrev pub none : ℕ
none = 0

abbrev pub stop : ℕ
stop = 1

abbrev pub warning : ℕ
warning = 2

-- "40 and warning"
abbrev pub forty : ℕ
forty = 3

abbrev pub clear : ℕ
clear = 4
