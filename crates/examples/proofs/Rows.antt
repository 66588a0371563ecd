-- Every row of the table holds: the numbers that the definitions give are those of the paper.
-- By one computation, in which every definition of a tick unfolds. Assumes nothing.
use mathlib.Core.Path.{◌≡◌, refl}
use mathlib.Core.List.{map}
use lib.Ieee.{of_bits}
use Rattle.reading.specs.Number.{quantity}
use Rattle.refusal.specs.Number.{value_of}
use Rattle.reading.specs.Speed.{speed_at, speed_of}
use Rattle.card.specs.Card.{card_in_range}
use Rattle.record.specs.Record.{record_in_range}
use Rattle.record.specs.Flags.{pressed, keys_of}
use Rattle.codes.specs.Target.{target}
use Rattle.signal.specs.Value.{curve_bound, largest_of, curve_value}
use Rattle.signal.specs.Speed.{signal_speed}
use Rattle.codes.specs.Gap.{interrupted_next, gap_next}
use Rattle.signal.specs.NewCode.{gap_man, man_by_code, curve_begins, curve_by_code}
use Rattle.codes.specs.Plus.{raise_by_code, step_3_plus, codes_next}
use Rattle.signal.specs.Man.{step_4_man}
use Rattle.signal.specs.Curve.{driven_now, curve_holds, man_starts, curve_now, man_now}
use Rattle.signal.specs.Steps.{steps_2_to_6}
use Rattle.cyclic.specs.Cyclic.{asks_increased, asks_ordinary, cyclic_kind, cycle_length, cyclic_lapses, cyclic_ticks, cyclic_prompts}
use Rattle.onetime.specs.OneTime.{lead, exceeds, prompt_lapses, prompt_stays, due_ahead}
use Rattle.onetime.specs.OneTime.{due_at_start, asks_ahead, asks_at_start, prompt_ticks_next, prompt_kind_next, prompted_next}
use Rattle.causes.specs.Held.{held_in, mask_of, if_held, listed, first_or, lowest, how_many}
use Rattle.motion.specs.Direction.{wrongway_now, wrongway_triggers}
use Rattle.motion.specs.Standing.{counted, standing_now, standing_triggers, standing_sounds}
use Rattle.causes.specs.Keeping.{released, step_10_held, step_10_wrongway}
use Rattle.state.specs.Mode.{mode_now, step_1_mode}
use Rattle.rules.specs.Permitted.{ceiling, step_6_permitted}
use Rattle.rules.specs.Answer.{marks}
use Rattle.rules.specs.Tick.{signal_in, permitted_in, kind_in, cyclic_in, one_time_in, direction_in, standing_in}
use Rattle.rules.specs.Tick.{triggers_in, releases_in, held_next, wrongway_next, state_next, answer_now, steps_2_to_10, advance}
use Rattle.rules.specs.After.{after}
use Rattle.examples.specs.Drive.{ticks, drive, taken, at_end}
use Rattle.examples.specs.Rows.{rows}

unfoldable pub rows_hold : map (λ row. row.what) rows ≡ map (λ row. row.is) rows
unfolding rows ticks drive taken at_end of_bits quantity speed_at speed_of value_of card_in_range record_in_range pressed keys_of target curve_bound
    largest_of curve_value signal_speed gap_man man_by_code curve_begins curve_by_code interrupted_next gap_next raise_by_code step_3_plus codes_next
    step_4_man driven_now curve_holds man_starts curve_now man_now steps_2_to_6 asks_increased asks_ordinary cyclic_kind cycle_length cyclic_lapses
    cyclic_ticks cyclic_prompts lead exceeds prompt_lapses prompt_stays due_ahead due_at_start asks_ahead asks_at_start prompt_ticks_next prompt_kind_next
    prompted_next held_in mask_of if_held listed first_or lowest how_many wrongway_now wrongway_triggers counted standing_now standing_triggers
    standing_sounds released step_10_held step_10_wrongway mode_now step_1_mode ceiling step_6_permitted signal_in permitted_in kind_in cyclic_in
    one_time_in direction_in standing_in triggers_in releases_in held_next wrongway_next marks state_next answer_now steps_2_to_10 advance after
rows_hold = refl
