-- A fresh state is in range.
-- By arithmetic. Assumes nothing.
use native.Mathlib.Omega.{arith}
use Rattle.state.specs.State.{fresh_state, StateRanges}

pub fresh_ranges : StateRanges fresh_state
fresh_ranges = omega arith
