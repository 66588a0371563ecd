-- The floor of 36x + 1/2 for x = n / d: it goes by the value of n / d, it is 0 below 1/128 m/s and too much from 128 m/s, and two cuts work it out.
-- By the laws of division.
use mathlib.Core.Path.{◌≡◌}
use Prim.Native.Nat.{ℕ, ◌+◌, ◌*◌, ◌/◌, ◌≤◌, ◌<◌}
use native.Mathlib.Nat.{add-mul, mul_comm, mul_left_comm, mul-mul-mul_comm, div-eq_of_lt, le-div_iff_mul-le, div-div-eq-div-mul, add-div_right}
use native.Mathlib.Omega.{arith}
use lib.Ieee.Nearest.{div_same}
use Rattle.reading.specs.Speed.{top_speed, rounded, speed_at}
use Rattle.reading.proofs.Number.{ByValue}

pub rounded_slow : (n d : ℕ) → 0 < d → 128 * n ≤ d → rounded n d ≡ 0
rounded_slow n d p h = div-eq_of_lt (omega arith)

pub rounded_fast : (n d : ℕ) → 0 < d → 128 * d ≤ n → top_speed < rounded n d
rounded_fast n d p h = (le-div_iff_mul-le {k = 2 * d} (omega arith)).1 (omega arith)

pub rounded_cuts : (n d : ℕ) → 0 < d → rounded n d ≡ (72 * n / d + 1) / 2
rounded_cuts n d p = rw (mul_comm 2 d, ← div-div-eq-div-mul (72 * n + d) d 2, add-div_right (72 * n) p)

rounded_by_value : ByValue rounded
rounded_by_value n d a c D C h =
    div_same (72 * n + d) (2 * d) (72 * a + c) (2 * c) (omega arith) (omega arith)
    (omega (
      arith,
      add-mul (72 * n) d (2 * c),
      mul-mul-mul_comm 72 n 2 c,
      mul_left_comm d 2 c,
      add-mul (72 * a) c (2 * d),
      mul-mul-mul_comm 72 a 2 d,
      mul_left_comm c 2 d,
      mul_comm d c,
    ))

pub speed_by_value : ByValue speed_at
unfolding speed_at
speed_by_value n d a c D C h = rw (rounded_by_value n d a c D C h)
