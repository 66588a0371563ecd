-- Of a file that is not refused: each of its cards and of its runs' records is in range, and the test of the cards that finds one out of range.
-- By the laws of a test that stands below a number and of the runs in turn. Assumes nothing.
use Prim.Native.Nat.{ℕ, ◌<◌}
use mathlib.Core.Path.{◌≡◌, sym, ap, ◌∙◌}
use mathlib.Core.Bool.{true, false}
use mathlib.Core.List.{List}
use Rattle.numbers.proofs.All.{all_each, all_not}
use Rattle.card.specs.declared.Card.{Card}
use Rattle.card.specs.Card.{CardRanges, card_in_range}
use Rattle.card.specs.Laws.{card_ranges}
use Rattle.record.specs.declared.Record.{Record}
use Rattle.record.specs.Record.{RecordRanges}
use Rattle.record.specs.Laws.{record_ranges}
use Rattle.file.specs.File.{card_count, run_count, card_in, cards_in_range, run_record}
use Rattle.file.specs.Runs.{runs_refusal}
use Rattle.file.proofs.Runs.{runs_each}

module _ (file : List ℕ) where
  pub card_good : (card : Card) (i : ℕ) → card ≡ card_in file i → i < card_count file → cards_in_range file (card_count file) ≡ true → CardRanges card
  card_good card i e l h = rw e (card_ranges _ (all_each (λ k. card_in_range (card_in file k)) i (card_count file) l h))

  pub card_bad : (card : Card) (i cards : ℕ) → card ≡ card_in file i → i < cards → card_in_range card ≡ false → cards_in_range file cards ≡ false
  card_bad card i cards e l h = all_not (λ k. card_in_range (card_in file k)) i cards l (ap card_in_range (sym e) ∙ h)

  pub record_good : (reading : Record) (j : ℕ) → reading ≡ run_record file j → j < run_count file → runs_refusal file (run_count file) ≡ 0
      → RecordRanges reading
  record_good reading j e l h = rw e (record_ranges _ (runs_each file j (run_count file) l h).good)
