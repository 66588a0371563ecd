-- Step 2, the target T of a code: none 1200, Stop from the card, Warning 1200, code 3 by its raise, Clear 1600.
use Rattle.std.specs.Prelude.{ℕ, ◌+◌, ◌*◌, ◌||◌, cond, eqb}
use Rattle.card.specs.declared.Card.{Card}
use Rattle.record.specs.Codes.{none, stop, warning, forty}

-- of Warning, and of no code
abbrev pub warning_target : ℕ
warning_target = 1200

abbrev pub clear_target : ℕ
clear_target = 1600

unfoldable pub target : Card → ℕ → ℕ → ℕ
target card code raise =
    cond (eqb code none || eqb code warning) warning_target
    (cond (eqb code stop) card.stop
    (cond (eqb code forty) (400 + 200 * raise) clear_target))
