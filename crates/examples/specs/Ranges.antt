-- Every range of the paper at its bounds and one beyond, on literal cards, records, desks and readings: 1 is in range, 0 is not.
use Rattle.std.specs.Prelude.{ℕ, ◌+◌, ◌-◌, Bool, cond, List, [], ◌∷◌, ◌++◌, map, eqb, get_or, set, replicate, length}
use Rattle.reading.specs.Bits.{float_of_bits}
use Rattle.refusal.specs.Number.{number_of, value_of}
use Rattle.reading.specs.Speed.{speed_of}
use Rattle.reading.specs.Pressure.{pressure_of}
use Rattle.card.specs.Card.{card_in_range}
use Rattle.record.specs.Record.{record_in_range}
use Rattle.desk.specs.Desk.{desk_in_range}
use Rattle.examples.specs.Drive.{fields}
use Rattle.examples.specs.Literals.{card_of, desk_of}
use Rattle.examples.specs.Rows.{Row}

-- the least and the most of a field
abbrev Bounds : Type 0
Bounds = List (ℕ × ℕ)

abbrev leasts : Bounds → List ℕ
leasts bounds = map (λ bound. bound.0) bounds

abbrev mosts : Bounds → List ℕ
mosts bounds = map (λ bound. bound.1) bounds

-- every way to have one field just beyond a bound, the others at their least; nothing is below 0
abbrev beyond : Bounds → List (List ℕ)
beyond [] = []
beyond (bound ∷ bounds) =
    cond (eqb bound.0 0) [] (((bound.0 - 1) ∷ leasts bounds) ∷ [])
    ++ (((bound.1 + 1) ∷ leasts bounds) ∷ map (λ rest. bound.0 ∷ rest) (beyond bounds))

-- all fields at their least are in range, all at their most are, and with one just beyond they are not
abbrev within : (List ℕ → Bool) → Bounds → Row
within test bounds = record {
  what = map (λ x. cond (test x) 1 0) (leasts bounds ∷ mosts bounds ∷ beyond bounds);
  is = 1 ∷ 1 ∷ replicate (length (beyond bounds)) 0;
}

abbrev card_bounds : Bounds
card_bounds =
    -- design, set, highest, POS ceiling, ZAV ceiling
    (1, 2500) ∷ (1, 2500) ∷ (1, 2500) ∷ (1, 2500) ∷ (1, 2500)
    -- tolerance, Stop target, deceleration, ordinary cycle, movement wait
    ∷ (0, 100) ∷ (0, 400) ∷ (5, 40) ∷ (150, 600) ∷ (250, 1000) ∷ []

abbrev record_bounds : Bounds
record_bounds =
    -- v, code, mode asked, lever, flags (bit 7 zero), band, sense
    (0, 2500) ∷ (0, 4) ∷ (1, 4) ∷ (0, 2) ∷ (0, 127) ∷ (0, 2) ∷ (0, 2) ∷ []

-- behind the card
abbrev desk_bounds : Bounds
desk_bounds =
    -- n, mode, buttons
    (0, 7200) ∷ (1, 4) ∷ (0, 7)
    -- last code, k, gap, raise
    ∷ (0, 4) ∷ (0, 4) ∷ (0, 51) ∷ (0, 4)
    -- V0, E, M, w
    ∷ (0, 2500) ∷ (0, 6250000) ∷ (0, 2500) ∷ (0, 1)
    -- u and its kind, vigilance kind and q
    ∷ (0, 35) ∷ (0, 1) ∷ (0, 2) ∷ (0, 599)
    -- d, h, causes
    ∷ (0, 3600) ∷ (0, 1000) ∷ (0, 31) ∷ []

abbrev record_test : List ℕ → Bool
record_test x =
    record_in_range (fields (get_or x 0 0) (get_or x 1 0) (get_or x 2 0) (get_or x 3 0) (get_or x 4 0) (get_or x 5 0) (get_or x 6 0))

-- a card's wait, its other fields at their least
abbrev wait_test : ℕ → Bool
wait_test x = card_in_range (card_of (set (leasts card_bounds) 9 x))

-- a speed in m/s by its bits: the number of its refusal, and v
abbrev speed : ℕ → ℕ → ℕ → Row
speed bits number v = record {
  what = number_of (speed_of (float_of_bits bits)) ∷ value_of 0 (speed_of (float_of_bits bits)) ∷ [];
  is = number ∷ v ∷ [];
}

-- a pressure in bar by its bits: the number of its refusal, and its band
abbrev pressure : ℕ → ℕ → ℕ → Row
pressure bits number band = record {
  what = number_of (pressure_of (float_of_bits bits)) ∷ value_of 0 (pressure_of (float_of_bits bits)) ∷ [];
  is = number ∷ band ∷ [];
}

unfoldable pub ranges : List Row
ranges =
    within (λ x. card_in_range (card_of x)) card_bounds
    -- 250 or 1000, no other
    ∷ record { what = map (λ x. cond (wait_test x) 1 0) (250 ∷ 251 ∷ 625 ∷ 999 ∷ 1000 ∷ []); is = 1 ∷ 0 ∷ 0 ∷ 0 ∷ 1 ∷ [] }
    ∷ within record_test record_bounds
    ∷ within (λ x. desk_in_range (desk_of x)) (card_bounds ++ desk_bounds)
    -- the last float that is 2500 and the next; minus zero and the float below it; infinities; no number
    ∷ speed 0x428aeaaa 0 2500
    ∷ speed 0x428aeaab 1 0
    ∷ speed 0x80000000 0 0
    ∷ speed 0x80000001 1 0
    ∷ speed 0x7f800000 1 0
    ∷ speed 0xff800000 1 0
    ∷ speed 0x7fc00000 1 0
    -- the float below 3.5, and 3.5; below 4.5, and 4.5; 10 and the float above it; the others as for speed
    ∷ pressure 0x405fffff 0 0
    ∷ pressure 0x40600000 0 1
    ∷ pressure 0x408fffff 0 1
    ∷ pressure 0x40900000 0 2
    ∷ pressure 0x41200000 0 2
    ∷ pressure 0x41200001 2 0
    ∷ pressure 0x80000000 0 0
    ∷ pressure 0x80000001 2 0
    ∷ pressure 0x7f800000 2 0
    ∷ pressure 0xff800000 2 0
    ∷ pressure 0x7fc00000 2 0
    ∷ []
