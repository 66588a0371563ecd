-- The exercise file: a header of counts and offsets, the cards, the runs.
use Rattle.std.specs.Prelude.{ℕ, ◌+◌, ◌*◌, Bool, ◌&&◌, List, leb, eqb, length}
use Rattle.numbers.specs.All.{all_below}
use Rattle.layout.specs.Layout.{u16_at}
use Rattle.card.specs.declared.Card.{Card}
use Rattle.card.specs.Card.{card_width, card_at, card_in_range}
use Rattle.record.specs.declared.Record.{Record}
use Rattle.record.specs.Record.{record_width, record_at}

-- five u16
abbrev pub header_width : ℕ
header_width = 10

-- ticks (u16), record
abbrev pub ticks_width : ℕ
ticks_width = 2

abbrev pub run_width : ℕ
run_width = ticks_width + record_width

abbrev pub most_cards : ℕ
most_cards = 8

abbrev pub most_runs : ℕ
most_runs = 6000

module _ (file : List ℕ) where
  abbrev pub card_count : ℕ
  card_count = u16_at file 0

  abbrev pub run_count : ℕ
  run_count = u16_at file 2

  -- where the counts put the runs and the end
  abbrev pub runs_from : ℕ
  runs_from = header_width + card_width * card_count

  abbrev pub file_end : ℕ
  file_end = runs_from + run_width * run_count

  -- not shorter than its header, counts in range, and offsets, total and real length as the counts give
  unfoldable pub header_good : Bool
  header_good =
      leb header_width (length file)
      && leb 1 card_count && leb card_count most_cards && leb run_count most_runs
      && eqb (u16_at file 4) header_width && eqb (u16_at file 6) runs_from && eqb (u16_at file 8) file_end
      && eqb (length file) file_end

  -- the card at a place, from 0
  unfoldable pub card_in : ℕ → Card
  card_in i = card_at file (header_width + card_width * i)

  -- the ticks and the record of the run at a place, from 0
  unfoldable pub run_ticks : ℕ → ℕ
  run_ticks j = u16_at file (runs_from + run_width * j)

  unfoldable pub run_record : ℕ → Record
  run_record j = record_at file (runs_from + run_width * j + ticks_width)

abbrev pub cards_in_range : List ℕ → ℕ → Bool
cards_in_range file m = all_below (λ i. card_in_range (card_in file i)) m
