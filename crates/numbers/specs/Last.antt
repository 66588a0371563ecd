-- The last of the numbers from 1 to n that pass a test; 0 where none does.
use Rattle.std.specs.Prelude.{ℕ, zero, suc, Bool, cond}

unfoldable pub last_of : (ℕ → Bool) → ℕ → ℕ
last_of test zero = 0
last_of test (suc n) = cond (test (suc n)) (suc n) (last_of test n)
