-- Newton's step for a root: it never goes below the root, wherever it comes from; from there the root is reached by ones.
-- The mean of two numbers is no lower than the root of their product, by multiplying out. Assumes nothing.
use Prim.Native.Nat.{ℕ, ◌+◌, ◌-◌, ◌*◌, ◌/◌, ◌%◌, ◌^◌, ◌≤◌, ◌<◌}
use mathlib.Core.Path.{◌≡◌, subst}
use mathlib.Core.Logic.{⊎_elim}
use native.Mathlib.Nat.{mul-le-mul, div-lt_iff_lt-mul, div-le_self}
use native.Mathlib.Omega.{arith}
use lib.Pow.{shl_exact, pow_mono}
use Rattle.numbers.proofs.Tests.{le_or_lt}
use Rattle.root.specs.Limit.{limit}

abbrev pub stepped : ℕ → ℕ → ℕ
stepped number guess = (guess + number / guess) / 2

mean_of_higher : (a b : ℕ) → a ≤ b → 4 * (a * b) ≤ (a + b) * (a + b)
mean_of_higher a b p =
    let more : a + (b - a) ≡ b = omega arith in
    subst (λ x. 4 * (a * x) ≤ (a + x) * (a + x)) more (omega arith)

mean : (a b : ℕ) → 4 * (a * b) ≤ (a + b) * (a + b)
mean a b = ⊎_elim (mean_of_higher a b) (λ p. omega (arith, mean_of_higher b a (omega arith))) (le_or_lt a b)

-- from any guess above 0
never_below : (number guess : ℕ) → 0 < guess → number < (stepped number guess + 1) * (stepped number guess + 1)
never_below number guess p =
    let q = number / guess in
    let m = stepped number guess in
    let in_parts : number < (q + 1) * guess = (div-lt_iff_lt-mul {k = guess} {x = number} {y = q + 1} p).0 (omega arith) in
    let twice : guess + (q + 1) ≤ 2 * (m + 1) = omega arith in
    omega (arith, in_parts, mean guess (q + 1), mul-le-mul twice twice)

pub stays_in_range : (number guess : ℕ) → number < limit → guess ≤ limit → stepped number guess ≤ limit
stays_in_range number guess p q = omega (arith, div-le_self number guess)

-- what the loop keeps: w is no lower than the root
pub record Above (number w : ℕ) : Type 0 where
  pub most : w ≤ limit
  pub below : number < (w + 1) * (w + 1)

pub step_above : (number guess : ℕ) → number < limit → 0 < guess → guess ≤ limit → Above number (stepped number guess)
step_above number guess p some q = record { most = stays_in_range number guess p q; below = never_below number guess some }

-- ---- the power of two that is stepped from, as a u32
pub power_small : (leading : ℕ) → (32 - leading) / 2 ≤ 16
power_small leading = omega arith

pub power_range : (half : ℕ) → half ≤ 16 → (0 < (1 * 2 ^ half) % 2 ^ 32) × ((1 * 2 ^ half) % 2 ^ 32 ≤ limit)
power_range half p =
    let exact = shl_exact {a = 1} 1 half 32 (omega arith) (omega arith) in
    let most = pow_mono {i = half} {j = 16} p in
    let least = pow_mono {i = 0} {j = half} (omega arith) in
    rw exact (omega (arith, most, least), omega (arith, most, least))
