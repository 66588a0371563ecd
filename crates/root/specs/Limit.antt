-- What a root is taken of.
use Rattle.std.specs.Prelude.{ℕ}

-- 4096²: below it a root has twelve binary digits
abbrev pub limit : ℕ
limit = 16777216
