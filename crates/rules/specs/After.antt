-- A drive: a fresh state fed the first m records, each given by its place from 0, with the last answer.
use Rattle.std.specs.Prelude.{ℕ, zero, suc}
use Rattle.card.specs.declared.Card.{Card}
use Rattle.record.specs.declared.Record.{Record}
use Rattle.rules.specs.declared.AfterTick.{AfterTick}
use Rattle.state.specs.State.{fresh_state}
use Rattle.rules.specs.Answer.{no_answer}
use Rattle.rules.specs.Tick.{advance}

unfoldable pub after : Card → (ℕ → Record) → ℕ → AfterTick
after card records zero = record { state = fresh_state; answer = no_answer }
after card records (suc m) = advance card (after card records m).state (records m)
