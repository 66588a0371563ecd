-- The sample: its record, and the number of its refusal.
use Rattle.std.specs.Prelude.{ℕ, cond}
use Rattle.refusal.specs.Refusal.{bad_field, first_refusal}
use Rattle.refusal.specs.Number.{number_of, value_of}
use Rattle.reading.specs.Speed.{speed_of}
use Rattle.reading.specs.Pressure.{pressure_of}
use Rattle.record.specs.declared.Sample.{Sample}
use Rattle.record.specs.declared.Record.{Record}
use Rattle.record.specs.Record.{record_in_range}

-- v and band are what the floats say, and the switches are as they are
unfoldable pub sample_record : Sample → Record
sample_record sample =
    record {
      v = value_of 0 (speed_of sample.speed);
      code = sample.code;
      mode = sample.mode;
      lever = sample.lever;
      flags = sample.flags;
      band = value_of 0 (pressure_of sample.pressure);
      sense = sample.sense;
    }

-- another field
unfoldable pub record_refusal : Record → ℕ
record_refusal reading = cond (record_in_range reading) 0 bad_field

-- speed, pressure, another field, in that order
unfoldable pub sample_refusal : Sample → ℕ
sample_refusal sample =
    first_refusal (number_of (speed_of sample.speed))
    (first_refusal (number_of (pressure_of sample.pressure)) (record_refusal (sample_record sample)))
