-- Step 4: MAN that was on before the tick and is on still.
use Rattle.std.specs.Prelude.{ℕ, min, Bool, ◌&&◌, cond, leb}
use Rattle.signal.specs.Speed.{man_on}
use Rattle.signal.specs.NewCode.{man_at}

-- it ends if the code is unchanged and v ≤ T; else M = max(1200, min(M, v)). `was` is M before the tick, `now` M as step 2 left it
unfoldable pub step_4_man : ℕ → ℕ → Bool → ℕ → ℕ → ℕ
step_4_man was now unchanged t v =
    cond (man_on was && man_on now) (cond (unchanged && leb v t) 0 (man_at (min now v))) now
