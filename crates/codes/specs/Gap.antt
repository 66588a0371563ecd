-- Step 2: a new code, and the gap before it.
use Rattle.std.specs.Prelude.{ℕ, ◌+◌, min, Bool, not, cond, eqb}
use Rattle.record.specs.declared.Record.{Record}
use Rattle.record.specs.Codes.{none}
use Rattle.codes.specs.declared.Codes.{Codes}
use Rattle.codes.specs.Ranges.{longest_gap}

module _ (codes : Codes) (reading : Record) where
  abbrev pub unchanged : Bool
  unchanged = eqb reading.code codes.last

  abbrev pub new_code : Bool
  new_code = not unchanged

  -- k: a change to 0 puts the old code in k and g = 1; a change from 0 ends with k = g = 0
  unfoldable pub interrupted_next : ℕ
  interrupted_next =
      cond new_code (cond (eqb reading.code none) codes.last (cond (eqb codes.last none) 0 codes.interrupted)) codes.interrupted

  -- g: if code 0 goes on, g grows by one, to 51 at most
  unfoldable pub gap_next : ℕ
  gap_next =
      cond new_code
      (cond (eqb reading.code none) 1 (cond (eqb codes.last none) 0 codes.gap))
      (cond (eqb reading.code none) (min longest_gap (codes.gap + 1)) codes.gap)
