-- A refusal by its number, and what a call that may refuse comes to, read as the paper reads it: a number, 0 where nothing is refused, and a value.
use Rattle.std.specs.Prelude.{ℕ, Result, Ok, Err}
use Rattle.refusal.specs.Refusal.{bad_speed, bad_pressure, bad_field, bad_card, bad_desk, short_journal, full_journal, back_too_far, bad_record}
use Rattle.refusal.specs.Refusal.{bad_file, bad_ticks, short_buffer, no_such_card, valve_closed, bad_table, no_such_message, no_such_language, other_desk}
use Rattle.refusal.specs.declared.Refusal.{Refusal}
use Rattle.refusal.specs.declared.Refusal.TheVariants.{BadSpeed, BadPressure, BadField, BadCard, BadDesk, ShortJournal, FullJournal, BackTooFar, BadRecord}
use Rattle.refusal.specs.declared.Refusal.TheVariants.{BadFile, BadTicks, ShortBuffer, NoSuchCard, ValveClosed, BadTable, NoSuchMessage, NoSuchLanguage, OtherDesk}

unfoldable pub number : Refusal → ℕ
number BadSpeed = bad_speed
number BadPressure = bad_pressure
number BadField = bad_field
number BadCard = bad_card
number BadDesk = bad_desk
number ShortJournal = short_journal
number FullJournal = full_journal
number BackTooFar = back_too_far
number BadRecord = bad_record
number BadFile = bad_file
number BadTicks = bad_ticks
number ShortBuffer = short_buffer
number NoSuchCard = no_such_card
number ValveClosed = valve_closed
number BadTable = bad_table
number NoSuchMessage = no_such_message
number NoSuchLanguage = no_such_language
number OtherDesk = other_desk

-- the number of the refusal, 0 where there is none
unfoldable pub number_of : {A : Type 0} → Result A Refusal → ℕ
number_of (Ok x) = 0
number_of (Err refusal) = number refusal

-- the value, `none` where there is a refusal
unfoldable pub value_of : {A : Type 0} → A → Result A Refusal → A
value_of none (Ok x) = x
value_of none (Err refusal) = none
