-- Times that several rules share, in ticks.
use Rattle.std.specs.Prelude.{ℕ}

-- the most ticks of a drive: twelve minutes
abbrev pub most_ticks : ℕ
most_ticks = 7200
