-- The card: its ranges, as facts and as the test that the code makes; its tolerance; its 20 bytes.
use Rattle.std.specs.Prelude.{ℕ, ◌+◌, ◌≤◌, ◌≡◌, Bool, ◌&&◌, ◌||◌, ◌⊎◌, leb, ltb, eqb}
use mathlib.Core.List.{List, [], ◌∷◌, flat_map}
use Rattle.reading.specs.Speed.{top_speed}
use Rattle.layout.specs.Layout.{u16_at, u16_bytes, put}
use Rattle.card.specs.declared.Card.{Card}

-- the bounds other than top_speed
abbrev pub least_speed : ℕ
least_speed = 1

abbrev pub most_tolerance : ℕ
most_tolerance = 100

abbrev pub most_stop : ℕ
most_stop = 400

abbrev pub least_deceleration : ℕ
least_deceleration = 5

abbrev pub most_deceleration : ℕ
most_deceleration = 40

abbrev pub least_cycle : ℕ
least_cycle = 150

abbrev pub most_cycle : ℕ
most_cycle = 600

-- the movement wait is one of the two, no other
abbrev pub short_wait : ℕ
short_wait = 250

abbrev pub long_wait : ℕ
long_wait = 1000

pub record CardRanges (card : Card) : Type 0 where
  pub design_least : least_speed ≤ card.design
  pub design_most : card.design ≤ top_speed
  pub set_least : least_speed ≤ card.set
  pub set_most : card.set ≤ top_speed
  pub highest_least : least_speed ≤ card.highest
  pub highest_most : card.highest ≤ top_speed
  pub pos_least : least_speed ≤ card.pos
  pub pos_most : card.pos ≤ top_speed
  pub zav_least : least_speed ≤ card.zav
  pub zav_most : card.zav ≤ top_speed
  pub tolerance_most : card.tolerance ≤ most_tolerance
  pub stop_most : card.stop ≤ most_stop
  pub deceleration_least : least_deceleration ≤ card.deceleration
  pub deceleration_most : card.deceleration ≤ most_deceleration
  pub cycle_least : least_cycle ≤ card.cycle
  pub cycle_most : card.cycle ≤ most_cycle
  pub wait_either : (card.wait ≡ short_wait) ⊎ (card.wait ≡ long_wait)

unfoldable pub card_in_range : Card → Bool
card_in_range card =
    leb least_speed card.design && leb card.design top_speed
    && leb least_speed card.set && leb card.set top_speed
    && leb least_speed card.highest && leb card.highest top_speed
    && leb least_speed card.pos && leb card.pos top_speed
    && leb least_speed card.zav && leb card.zav top_speed
    && leb card.tolerance most_tolerance
    && leb card.stop most_stop
    && leb least_deceleration card.deceleration && leb card.deceleration most_deceleration
    && leb least_cycle card.cycle && leb card.cycle most_cycle
    && (eqb card.wait short_wait || eqb card.wait long_wait)

-- v exceeds a speed by more than the card's tolerance
abbrev pub beyond : Card → ℕ → ℕ → Bool
beyond card speed v = ltb (speed + card.tolerance) v

-- a card of zeros, which is out of range
abbrev pub no_card : Card
no_card = record {
  design = 0;
  set = 0;
  highest = 0;
  pos = 0;
  zav = 0;
  tolerance = 0;
  stop = 0;
  deceleration = 0;
  cycle = 0;
  wait = 0;
}

-- how many bytes a card takes
abbrev pub card_width : ℕ
card_width = 20

-- ten u16 in the paper's order
abbrev pub card_bytes : Card → List ℕ
card_bytes card =
    flat_map u16_bytes
    (card.design ∷ card.set ∷ card.highest ∷ card.pos ∷ card.zav
    ∷ card.tolerance ∷ card.stop ∷ card.deceleration ∷ card.cycle ∷ card.wait ∷ [])

unfoldable pub card_at : List ℕ → ℕ → Card
card_at bytes at =
    record {
      design = u16_at bytes at;
      set = u16_at bytes (at + 2);
      highest = u16_at bytes (at + 4);
      pos = u16_at bytes (at + 6);
      zav = u16_at bytes (at + 8);
      tolerance = u16_at bytes (at + 10);
      stop = u16_at bytes (at + 12);
      deceleration = u16_at bytes (at + 14);
      cycle = u16_at bytes (at + 16);
      wait = u16_at bytes (at + 18);
    }

-- where the bytes do not fit, nothing is written
unfoldable pub put_card : List ℕ → ℕ → Card → List ℕ
put_card bytes at card = put bytes at (card_bytes card)
