-- A journal's records by the test of the first m: each is in range where the test says so, one that is not shows, and one more is tested with those before.
-- By the laws of a test that holds at every number below a bound. Assumes nothing.
use Prim.Native.Nat.{ℕ, ◌+◌, ◌*◌, ◌<◌}
use mathlib.Core.Path.{◌≡◌, sym, ap, ◌∙◌}
use mathlib.Core.Bool.{true, false}
use mathlib.Core.List.{List}
use Rattle.numbers.proofs.All.{all_each, all_more, all_not}
use Rattle.record.specs.declared.Record.{Record}
use Rattle.record.specs.Record.{RecordRanges, record_width, record_at, record_in_range}
use Rattle.record.specs.Laws.{record_ranges}
use Rattle.journal.specs.Journal.{records, all_in_range}

module _ (J : List ℕ) (i : ℕ) (r : Record) (is : r ≡ record_at J (record_width * i)) where
  pub tested : (m : ℕ) → i < m → all_in_range J m ≡ true → RecordRanges r
  unfolding records
  tested m l h = record_ranges r (ap record_in_range is ∙ all_each _ i m l h)

  pub failed : (m : ℕ) → i < m → record_in_range r ≡ false → false ≡ all_in_range J m
  unfolding records
  failed m l h = sym (all_not _ i m l (ap record_in_range (sym is) ∙ h))

  pub one_more : all_in_range J i ≡ true → record_in_range r ≡ true → all_in_range J (i + 1) ≡ true
  unfolding records
  one_more h k = all_more _ i h (ap record_in_range (sym is) ∙ k)
