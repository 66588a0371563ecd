-- The speed of a reading, from m/s to tenths of km/h.
use Rattle.std.specs.Prelude.{ℕ, ◌+◌, ◌*◌, ◌/◌, cond, leb, Float, Result, Ok, Err}
use Rattle.refusal.specs.declared.Refusal.{Refusal}
use Rattle.refusal.specs.declared.Refusal.TheVariants.{BadSpeed}
use Rattle.reading.specs.Number.{quantity}

-- the greatest speed, 250 km/h
abbrev pub top_speed : ℕ
top_speed = 2500

-- "v is the floor of 36x + 1/2", for x = n / d: 36n/d + 1/2 is (72n + d) / 2d
abbrev pub rounded : ℕ → ℕ → ℕ
rounded n d = (72 * n + d) / (2 * d)

-- "Refused: .. v above 2500"
unfoldable pub speed_at : ℕ → ℕ → Result ℕ Refusal
speed_at n d = cond (leb (rounded n d) top_speed) (Ok (rounded n d)) (Err BadSpeed)

-- x m/s
unfoldable pub speed_of : Float → Result ℕ Refusal
speed_of x = quantity (Err BadSpeed) speed_at x
