-- What the desk holds of the codes: its zeros, and its ranges, as facts and as the test that the code makes.
use Rattle.std.specs.Prelude.{ℕ, ◌≤◌, Bool, ◌&&◌, leb}
use Rattle.record.specs.Codes.{clear}
use Rattle.codes.specs.declared.Codes.{Codes}

-- the longest gap that is counted
abbrev pub longest_gap : ℕ
longest_gap = 51

abbrev pub most_raise : ℕ
most_raise = 4

abbrev pub no_codes : Codes
no_codes = record { last = 0; interrupted = 0; gap = 0; raise = 0 }

pub record CodesRanges (codes : Codes) : Type 0 where
  pub last_most : codes.last ≤ clear
  pub interrupted_most : codes.interrupted ≤ clear
  pub gap_most : codes.gap ≤ longest_gap
  pub raise_most : codes.raise ≤ most_raise

abbrev pub codes_in_range : Codes → Bool
codes_in_range codes = leb codes.last clear && leb codes.interrupted clear && leb codes.gap longest_gap && leb codes.raise most_raise
