-- Step 9, NZ4: remote stop.
use Rattle.std.specs.Prelude.{ℕ, Bool, ◌&&◌}
use Rattle.record.specs.declared.Keys.{Keys}
use Rattle.record.specs.Modes.{pre_or_vyl}

-- in PRE and VYL: remote stop on
abbrev pub remote_stops : ℕ → Keys → Bool
remote_stops mode keys = pre_or_vyl mode && keys.remote
