-- The numbers of refusal, as the paper's table has them and from 14 on the request that brings them; 0 is none.
-- When each is given stands with the call that gives it.
use Rattle.std.specs.Prelude.{ℕ, cond, eqb}

-- of a sample: its speed, its pressure, another field out of range
abbrev pub bad_speed : ℕ
bad_speed = 1

abbrev pub bad_pressure : ℕ
bad_pressure = 2

abbrev pub bad_field : ℕ
bad_field = 3

-- card out of range
abbrev pub bad_card : ℕ
bad_card = 4

-- desk field or card out of range
abbrev pub bad_desk : ℕ
bad_desk = 5

-- journal shorter than 8n
abbrev pub short_journal : ℕ
short_journal = 6

-- n at or above capacity
abbrev pub full_journal : ℕ
full_journal = 7

-- step back by more than n
abbrev pub back_too_far : ℕ
back_too_far = 8

-- a record out of range
abbrev pub bad_record : ℕ
bad_record = 9

-- file shorter than its header, a count out of range, or an offset, total or real length other than the counts give
abbrev pub bad_file : ℕ
bad_file = 10

-- a run of 0 ticks, or sum over 7,200
abbrev pub bad_ticks : ℕ
bad_ticks = 11

-- answer buffer below 8 bytes a tick
abbrev pub short_buffer : ℕ
short_buffer = 12

-- no such card
abbrev pub no_such_card : ℕ
no_such_card = 13

-- the emergency brake valve is closed
abbrev pub valve_closed : ℕ
valve_closed = 14

-- of texts: the chosen table is bad, the message number is not below its count, there is no such language
abbrev pub bad_table : ℕ
bad_table = 15

abbrev pub no_such_message : ℕ
no_such_message = 16

abbrev pub no_such_language : ℕ
no_such_language = 17

-- the desk is not the one that the journal rebuilds
abbrev pub other_desk : ℕ
other_desk = 23

-- of two numbers the first that is not 0; 0 if both are
unfoldable pub first_refusal : ℕ → ℕ → ℕ
first_refusal first second = cond (eqb first 0) second first
