-- The flags: the weight of each bit, from bit 0; what is on, and what is pressed.
use Rattle.std.specs.Prelude.{ℕ, ◌+◌, ◌%◌, Bool, not, ◌&&◌}
use Rattle.numbers.specs.Bits.{bit_on}
use Rattle.record.specs.declared.Keys.{Keys}

abbrev pub vigilance : ℕ
vigilance = 1

abbrev pub plus : ℕ
plus = 2

abbrev pub man : ℕ
man = 4

-- the direct brake
abbrev pub brake : ℕ
brake = 8

-- remote stop
abbrev pub remote : ℕ
remote = 16

-- adhesion loss
abbrev pub loss : ℕ
loss = 32

-- cab on
abbrev pub cab : ℕ
cab = 64

-- bit 7 is zero
abbrev pub all_flags : ℕ
all_flags = vigilance + plus + man + brake + remote + loss + cab

-- the three buttons
abbrev pub all_buttons : ℕ
all_buttons = vigilance + plus + man

-- those of the flags that are buttons, which the desk holds until the next tick
abbrev pub buttons_of : ℕ → ℕ
buttons_of flags = flags % (all_buttons + 1)

-- "A press is a button on now and off the tick before (off before the first)": a fresh desk holds no button
unfoldable pub pressed : ℕ → ℕ → ℕ → Bool
pressed flags before weight = bit_on flags weight && not (bit_on before weight)

-- the three buttons as presses, then the switches; `buttons` are those of the tick before
unfoldable pub keys_of : ℕ → ℕ → Keys
keys_of flags buttons =
    record {
      vigilance = pressed flags buttons vigilance;
      plus = pressed flags buttons plus;
      man = pressed flags buttons man;
      brake = bit_on flags brake;
      remote = bit_on flags remote;
      loss = bit_on flags loss;
      cab = bit_on flags cab;
    }
