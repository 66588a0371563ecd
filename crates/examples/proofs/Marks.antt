-- Every row of the table of marks holds.
-- By one computation, in which every definition of a tick unfolds, as in `rows_hold`. Assumes nothing.
use mathlib.Core.Path.{◌≡◌, refl}
use mathlib.Core.List.{map}
use Rattle.examples.specs.Marks.{marks}
use Rattle.examples.proofs.Rows.{rows_hold}

pub marks_hold : map (λ row. row.what) marks ≡ map (λ row. row.is) marks
unfolding marks rows_hold
marks_hold = refl
