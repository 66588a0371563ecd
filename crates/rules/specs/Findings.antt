-- What steps 2 to 9 of a tick find, in the one struct that the code hands on.
use Rattle.card.specs.declared.Card.{Card}
use Rattle.record.specs.declared.Record.{Record}
use Rattle.state.specs.declared.State.{State}
use Rattle.rules.specs.declared.Findings.{Findings}
use Rattle.rules.specs.Tick.{keys_in, signal_in, permitted_in, cyclic_in, one_time_in, direction_in, standing_in}

abbrev pub steps_2_to_9 : Card → State → Record → Findings
steps_2_to_9 card state reading =
    record {
      keys = keys_in card state reading;
      signal = signal_in card state reading;
      permitted = permitted_in card state reading;
      cyclic = cyclic_in card state reading;
      onetime = one_time_in card state reading;
      direction = direction_in card state reading;
      standing = standing_in card state reading;
    }
