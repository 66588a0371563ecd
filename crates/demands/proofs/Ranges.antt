-- The ranges as the paper writes them are those that the tests of the code ask for.
-- By the laws of each test, whose bounds compute to the paper's numbers. Assumes nothing.
use Prim.Native.Nat.{ℕ, ◌<◌}
use mathlib.Core.Path.{◌≡◌}
use mathlib.Core.Bool.{true}
use mathlib.Core.Logic.{◌↔◌}
use mathlib.Core.List.{List}
use lib.Dec.{ltb, eqb}
use borrow.Author.Rules.{rules}
use borrow.Author.Tests.{ltb-true, lt-ltb, eqb-true, eq-eqb}
use Rattle.numbers.proofs.Tests.{and_iff, leb_iff}
use Rattle.card.specs.declared.Card.{Card}
use Rattle.card.specs.Card.{CardRanges, card_in_range}
use Rattle.card.specs.Laws.{card_ranges, ranges_card}
use Rattle.record.specs.declared.Record.{Record}
use Rattle.record.specs.declared.Sample.{Sample}
use Rattle.record.specs.Record.{RecordRanges, record_in_range}
use Rattle.record.specs.Sample.{sample_record}
use Rattle.record.specs.Laws.{record_ranges, ranges_record}
use Rattle.record.proofs.Refusal.{sample_v, sample_band}
use Rattle.desk.specs.declared.Desk.{Desk}
use Rattle.desk.specs.Desk.{DeskRanges, desk_in_range}
use Rattle.desk.specs.Laws.{desk_ranges, ranges_desk}
use Rattle.file.specs.File.{header_good}
use Rattle.demands.specs.Ranges.{CardFits, RecordFits, DeskFits}
use Rattle.demands.specs.Reasons.{SwitchesFit, HeaderFits}

pub ltb_iff : (a b : ℕ) → (ltb a b ≡ true) ↔ (a < b)
ltb_iff a b = (ltb-true a b, lt-ltb a b)

pub eqb_iff : (a b : ℕ) → (eqb a b ≡ true) ↔ (a ≡ b)
eqb_iff a b = (eqb-true a b, eq-eqb a b)

card_so : (c : Card) → CardRanges c → CardFits c
card_so c h = search rules

so_card : (c : Card) → CardFits c → CardRanges c
so_card c h = search rules

pub card_fits : (c : Card) → (card_in_range c ≡ true) ↔ CardFits c
card_fits c = (λ e. card_so c (card_ranges c e), λ h. ranges_card c (so_card c h))

record_so : (r : Record) → RecordRanges r → RecordFits r
record_so r h = search rules

so_record : (r : Record) → RecordFits r → RecordRanges r
so_record r h = search rules

pub record_fits : (r : Record) → (record_in_range r ≡ true) ↔ RecordFits r
record_fits r = (λ e. record_so r (record_ranges r e), λ h. ranges_record r (so_record r h))

desk_so : (d : Desk) → DeskRanges d → DeskFits d
desk_so d h = let c = card_so d.card h.card in search rules

so_desk : (d : Desk) → DeskFits d → DeskRanges d
so_desk d h = let c = so_card d.card h.card in search rules

pub desk_fits : (d : Desk) → (desk_in_range d ≡ true) ↔ DeskFits d
desk_fits d = (λ e. desk_so d (desk_ranges d e), λ h. ranges_desk d (so_desk d h))

-- v and band of a sample are in range whatever the floats are
switches_so : (x : Sample) → RecordFits (sample_record x) → SwitchesFit x
unfolding sample_record
switches_so x h = search rules

so_switches : (x : Sample) → SwitchesFit x → RecordFits (sample_record x)
unfolding sample_record
so_switches x h = let v = sample_v x in let b = sample_band x in search rules

pub switches_fit : (x : Sample) → (record_in_range (sample_record x) ≡ true) ↔ SwitchesFit x
switches_fit x = (λ e. switches_so x ((record_fits _).0 e), λ h. (record_fits _).1 (so_switches x h))

header_so : (file : List ℕ) → header_good file ≡ true → HeaderFits file
unfolding header_good
header_so file e = let f = simp (and_iff, leb_iff, eqb_iff) at e in search rules

so_header : (file : List ℕ) → HeaderFits file → header_good file ≡ true
unfolding header_good
so_header file h = simp (and_iff, leb_iff, eqb_iff) (search rules)

pub header_fits : (file : List ℕ) → (header_good file ≡ true) ↔ HeaderFits file
header_fits file = (header_so file, so_header file)
