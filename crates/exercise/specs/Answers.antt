-- The answers of a drive: eight bytes a tick, as the rules give them from a fresh state.
use Rattle.std.specs.Prelude.{ℕ, zero, suc, List, [], ◌++◌}
use Rattle.card.specs.declared.Card.{Card}
use Rattle.record.specs.declared.Record.{Record}
use Rattle.rules.specs.Answer.{answer_bytes}
use Rattle.rules.specs.After.{after}

-- of the first m ticks
unfoldable pub answers : Card → (ℕ → Record) → ℕ → List ℕ
answers card records zero = []
answers card records (suc m) = answers card records m ++ answer_bytes (after card records (suc m)).answer
