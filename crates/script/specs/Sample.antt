-- The 13 bytes of a sample: the bits of its two floats, then the switches.
use Rattle.std.specs.Prelude.{ℕ, ◌+◌, ◌*◌, List, get_or}
use Rattle.layout.specs.Layout.{u16_at}
use Rattle.reading.specs.Bits.{float_of_bits}
use Rattle.record.specs.declared.Sample.{Sample}

-- the u32 at a place, its low byte first; a place past the end holds 0
unfoldable pub u32_at : List ℕ → ℕ → ℕ
u32_at bytes at = u16_at bytes at + 65536 * u16_at bytes (at + 2)

abbrev pub sample_width : ℕ
sample_width = 13

-- the bits of speed and pressure as u32, then code, mode, lever, flags, sense
unfoldable pub sample_at : List ℕ → ℕ → Sample
sample_at bytes at =
    record {
      speed = float_of_bits (u32_at bytes at);
      pressure = float_of_bits (u32_at bytes (at + 4));
      code = get_or bytes (at + 8) 0;
      mode = get_or bytes (at + 9) 0;
      lever = get_or bytes (at + 10) 0;
      flags = get_or bytes (at + 11) 0;
      sense = get_or bytes (at + 12) 0;
    }
