-- What the desk holds of cyclic vigilance: its zeros, and its ranges, as facts and as the test that the code makes.
use Rattle.std.specs.Prelude.{ℕ, ◌≤◌, Bool, ◌&&◌, leb}
use Rattle.cyclic.specs.declared.Cyclic.{Cyclic}

-- the kinds; 0 is none
abbrev pub ordinary : ℕ
ordinary = 1

abbrev pub increased : ℕ
increased = 2

abbrev pub longest_count : ℕ
longest_count = 599

abbrev pub no_cyclic : Cyclic
no_cyclic = record { kind = 0; ticks = 0 }

pub record CyclicRanges (cyclic : Cyclic) : Type 0 where
  pub kind_most : cyclic.kind ≤ increased
  pub ticks_most : cyclic.ticks ≤ longest_count

abbrev pub cyclic_in_range : Cyclic → Bool
cyclic_in_range cyclic = leb cyclic.kind increased && leb cyclic.ticks longest_count
