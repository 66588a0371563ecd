-- Step 10 keeps the wrong way and the held causes in range.
-- Each choice is bounded arm by arm. Assumes nothing.
use Prim.Native.Nat.{ℕ, ◌≤◌}
use native.Mathlib.Omega.{arith}
use Rattle.numbers.proofs.Choice.{most_iff, weight_most}
use Rattle.causes.specs.Causes.{Causes}
use Rattle.causes.specs.Held.{all_held, mask_of}
use Rattle.causes.specs.Keeping.{step_10_wrongway}

pub step_10_wrongway_most : (d n : ℕ) (held triggered free : Causes) → d ≤ n → step_10_wrongway d held triggered free ≤ n
unfolding step_10_wrongway
step_10_wrongway_most d n held triggered free p = simp most_iff (omega arith)

pub mask_of_most : (c : Causes) → mask_of c ≤ all_held
unfolding mask_of
mask_of_most c =
    omega (arith, weight_most c.nz1 1, weight_most c.nz2 2, weight_most c.nz3 4, weight_most c.nz4 8, weight_most c.nz5 16)
