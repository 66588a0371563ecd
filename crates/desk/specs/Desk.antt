-- The desk: its ranges, as facts and as the test that the code makes; a fresh desk, and one of zeros.
use Rattle.std.specs.Prelude.{◌≤◌, Bool, ◌&&◌, leb}
use Rattle.card.specs.declared.Card.{Card}
use Rattle.card.specs.Card.{CardRanges, card_in_range, no_card}
use Rattle.state.specs.State.{mode_alone, fresh_state, StateRanges, state_in_range}
use Rattle.desk.specs.declared.Desk.{Desk}
use Rattle.record.specs.Times.{most_ticks}

pub record DeskRanges (desk : Desk) : Type 0 where
  pub card : CardRanges desk.card
  pub n_most : desk.n ≤ most_ticks
  pub state : StateRanges desk.state

unfoldable pub desk_in_range : Desk → Bool
desk_in_range desk = card_in_range desk.card && leb desk.n most_ticks && state_in_range desk.state

abbrev pub fresh_desk : Card → Desk
fresh_desk card = record { card = card; n = 0; state = fresh_state }

-- a desk of zeros, card and mode included
abbrev pub no_desk : Desk
no_desk = record { card = no_card; n = 0; state = mode_alone 0 }
