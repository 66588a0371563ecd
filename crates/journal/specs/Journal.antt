-- The journal: the record at each place, how many it takes, and whether the first of them are in range.
use Rattle.std.specs.Prelude.{ℕ, ◌*◌, ◌/◌, min, List, Bool}
use Rattle.numbers.specs.All.{all_below}
use Rattle.record.specs.declared.Record.{Record}
use Rattle.record.specs.Record.{record_width, record_at, record_in_range}
use Rattle.record.specs.Times.{most_ticks}

-- the lesser of 7,200 and journal length / 8, whole: the length in bytes
unfoldable pub capacity : ℕ → ℕ
capacity bytes = min most_ticks (bytes / record_width)

unfoldable pub records : List ℕ → ℕ → Record
records journal i = record_at journal (record_width * i)

abbrev pub all_in_range : List ℕ → ℕ → Bool
all_in_range journal m = all_below (λ i. record_in_range (records journal i)) m
