-- The pressure of a reading, from bar to a band.
use Rattle.std.specs.Prelude.{ℕ, ◌*◌, cond, leb, ltb, Float, Result, Ok, Err}
use Rattle.refusal.specs.declared.Refusal.{Refusal}
use Rattle.refusal.specs.declared.Refusal.TheVariants.{BadPressure}
use Rattle.reading.specs.Number.{quantity}

-- the highest band
abbrev pub top_band : ℕ
top_band = 2

-- "band 0 is below 3.5, band 1 from 3.5 to below 4.5, band 2 from 4.5", for n / d bar: 3.5 is 7/2 and 4.5 is 9/2
unfoldable pub band_at : ℕ → ℕ → ℕ
band_at n d = cond (ltb (2 * n) (7 * d)) 0 (cond (ltb (2 * n) (9 * d)) 1 top_band)

-- "Pressure must lie from 0 to 10"
unfoldable pub pressure_at : ℕ → ℕ → Result ℕ Refusal
pressure_at n d = cond (leb n (10 * d)) (Ok (band_at n d)) (Err BadPressure)

-- x bar
unfoldable pub pressure_of : Float → Result ℕ Refusal
pressure_of x = quantity (Err BadPressure) pressure_at x
