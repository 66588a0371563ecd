-- Steps 2 and 3: the raise. The codes are then those of the next tick.
use Rattle.std.specs.Prelude.{ℕ, ◌+◌, ◌&&◌, cond, ltb, eqb}
use Rattle.record.specs.declared.Record.{Record}
use Rattle.record.specs.declared.Keys.{Keys}
use Rattle.record.specs.Codes.{forty}
use Rattle.codes.specs.declared.Codes.{Codes}
use Rattle.codes.specs.Ranges.{most_raise}
use Rattle.codes.specs.Gap.{new_code, interrupted_next, gap_next}

-- step 2, with a new code: raise becomes 0 before the new T is taken
unfoldable pub raise_by_code : Codes → Record → ℕ
raise_by_code codes reading = cond (new_code codes reading) 0 codes.raise

module _ (codes : Codes) (reading : Record) (keys : Keys) where
  -- step 3: a PLUS press under code 3 with raise below 4 adds one
  unfoldable pub step_3_plus : ℕ
  step_3_plus =
      cond (keys.plus && eqb reading.code forty && ltb (raise_by_code codes reading) most_raise) (raise_by_code codes reading + 1) (raise_by_code codes reading)

  unfoldable pub codes_next : Codes
  codes_next = record { last = reading.code; interrupted = interrupted_next codes reading; gap = gap_next codes reading; raise = step_3_plus }
