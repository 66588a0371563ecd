-- The record: its ranges, as facts and as the test that the code makes, and its 8 bytes.
use Rattle.std.specs.Prelude.{ℕ, ◌+◌, ◌≤◌, Bool, ◌&&◌, List, [], ◌∷◌, ◌++◌, leb, get_or}
use Rattle.reading.specs.Speed.{top_speed}
use Rattle.reading.specs.Pressure.{top_band}
use Rattle.layout.specs.Layout.{u16_at, u16_bytes, put}
use Rattle.record.specs.declared.Record.{Record}
use Rattle.record.specs.Codes.{clear}
use Rattle.record.specs.Modes.{pos, zav}
use Rattle.record.specs.Flags.{all_flags}

-- lever and sense of motion: 0 none, 1 forward, 2 reverse
abbrev pub reverse : ℕ
reverse = 2

pub record RecordRanges (reading : Record) : Type 0 where
  pub v_most : reading.v ≤ top_speed
  pub code_most : reading.code ≤ clear
  pub mode_least : pos ≤ reading.mode
  pub mode_most : reading.mode ≤ zav
  pub lever_most : reading.lever ≤ reverse
  pub flags_most : reading.flags ≤ all_flags
  pub band_most : reading.band ≤ top_band
  pub sense_most : reading.sense ≤ reverse

unfoldable pub record_in_range : Record → Bool
record_in_range reading =
    leb reading.v top_speed
    && leb reading.code clear
    && leb pos reading.mode
    && leb reading.mode zav
    && leb reading.lever reverse
    && leb reading.flags all_flags
    && leb reading.band top_band
    && leb reading.sense reverse

-- a record of zeros, which is out of range: there is no mode 0
abbrev pub no_record : Record
no_record = record { v = 0; code = 0; mode = 0; lever = 0; flags = 0; band = 0; sense = 0 }

-- how many bytes a record takes
abbrev pub record_width : ℕ
record_width = 8

abbrev pub record_bytes : Record → List ℕ
record_bytes reading =
    u16_bytes reading.v ++ (reading.code ∷ reading.mode ∷ reading.lever ∷ reading.flags ∷ reading.band ∷ reading.sense ∷ [])

unfoldable pub record_at : List ℕ → ℕ → Record
record_at bytes at =
    record {
      v = u16_at bytes at;
      code = get_or bytes (at + 2) 0;
      mode = get_or bytes (at + 3) 0;
      lever = get_or bytes (at + 4) 0;
      flags = get_or bytes (at + 5) 0;
      band = get_or bytes (at + 6) 0;
      sense = get_or bytes (at + 7) 0;
    }

-- where the bytes do not fit, nothing is written
unfoldable pub put_record : List ℕ → ℕ → Record → List ℕ
put_record bytes at reading = put bytes at (record_bytes reading)
