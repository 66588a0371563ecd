-- The version of the archive.
use Rattle.std.specs.Prelude.{ℕ, ◌+◌, ◌*◌}

-- 2.0.0: the first number grows where a host has to be compiled anew, the second where a call is added
abbrev pub version : ℕ
version = 10000 * 2 + 100 * 0 + 0
