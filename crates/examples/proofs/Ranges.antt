-- Every row of the table of ranges holds: the tests of ranges hold at the paper's bounds and fail one beyond.
-- By one computation, in which the tests unfold. Assumes nothing.
use mathlib.Core.Path.{◌≡◌, refl}
use mathlib.Core.List.{map}
use lib.Ieee.{of_bits}
use Rattle.reading.specs.Number.{quantity}
use Rattle.refusal.specs.Number.{number, number_of, value_of}
use Rattle.reading.specs.Speed.{speed_at, speed_of}
use Rattle.reading.specs.Pressure.{band_at, pressure_at, pressure_of}
use Rattle.card.specs.Card.{card_in_range}
use Rattle.record.specs.Record.{record_in_range}
use Rattle.signal.specs.Ranges.{signal_in_range}
use Rattle.state.specs.State.{state_in_range}
use Rattle.desk.specs.Desk.{desk_in_range}
use Rattle.examples.specs.Ranges.{ranges}

unfoldable pub ranges_hold : map (λ row. row.what) ranges ≡ map (λ row. row.is) ranges
unfolding ranges
    of_bits quantity number number_of value_of speed_at speed_of band_at pressure_at pressure_of
    card_in_range record_in_range signal_in_range state_in_range desk_in_range
ranges_hold = refl
