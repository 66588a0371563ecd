-- A sample that is not refused has a record in range; v and band are in range of every sample, so that number 3 is another field's.
-- The first of what is refused gives the number. By the chain of numbers, and by the bounds of what is read from a float. Assumes nothing.
use Prim.Native.Nat.{ℕ, ◌≤◌}
use native.Mathlib.Omega.{arith}
use mathlib.Core.Path.{◌≡◌, refl, ◌∙◌}
use mathlib.Core.Bool.{Bool, true, false, cond}
use Rattle.std.proofs.Common.{Ok, Err}
use Rattle.refusal.specs.Refusal.{bad_field}
use Rattle.refusal.specs.Number.{number, number_of, value_of}
use Rattle.refusal.specs.declared.Refusal.{Refusal}
use Rattle.refusal.specs.declared.Refusal.TheVariants.{BadField}
use Rattle.refusal.proofs.First.{both_zero, first_zero}
use Rattle.refusal.proofs.Number.{first_number}
use Rattle.reading.specs.Speed.{top_speed, speed_of}
use Rattle.reading.specs.Pressure.{top_band, pressure_of}
use Rattle.reading.proofs.Bounds.{speed_value_most, pressure_band_most}
use Rattle.record.specs.declared.Sample.{Sample}
use Rattle.record.specs.declared.Record.{Record}
use Rattle.record.specs.Record.{record_in_range}
use Rattle.record.specs.Sample.{record_refusal, sample_record, sample_refusal}

zero_in_range : (r : Record) → record_refusal r ≡ 0 → record_in_range r ≡ true
unfolding record_refusal
zero_in_range r h = go (record_in_range r) refl h
  where
    go : (t : Bool) → record_in_range r ≡ t → ◌≡◌ {A = ℕ} (cond t 0 bad_field) 0 → record_in_range r ≡ true
    go true e z = e
    go false e z = absurd (omega arith)

pub sample_in_range : (s : Sample) → sample_refusal s ≡ 0 → record_in_range (sample_record s) ≡ true
unfolding sample_refusal
sample_in_range s h =
    let other = (both_zero (number_of (speed_of s.speed)) _ h).1 in
    zero_in_range (sample_record s) (both_zero (number_of (pressure_of s.pressure)) _ other).1

pub sample_v : (s : Sample) → (sample_record s).v ≤ top_speed
unfolding sample_record
sample_v s = speed_value_most s.speed

pub sample_band : (s : Sample) → (sample_record s).band ≤ top_band
unfolding sample_record
sample_band s = pressure_band_most s.pressure

-- ---- the number of what a sample is refused for
abbrev pub record_with : Sample → ℕ → ℕ → Record
record_with s v b =
    record { v = v; code = s.code; mode = s.mode; lever = s.lever; flags = s.flags; band = b; sense = s.sense }

module _ (s : Sample) where
  pub speed_refused : (e : Refusal) → Err e ≡ speed_of s.speed → sample_refusal s ≡ number e
  unfolding sample_refusal number_of
  speed_refused e h = rw (← h) (first_number e _)

  pub pressure_refused : (v : ℕ) (e : Refusal) → Ok v ≡ speed_of s.speed → Err e ≡ pressure_of s.pressure → sample_refusal s ≡ number e
  unfolding sample_refusal number_of
  pressure_refused v e h k = rw (← h, ← k) (first_zero _ ∙ first_number e _)

  -- v and band as they were read
  pub record_read : (v b : ℕ) → Ok v ≡ speed_of s.speed → Ok b ≡ pressure_of s.pressure → record_with s v b ≡ sample_record s
  unfolding sample_record value_of
  record_read v b h k = rw (← h, ← k)

  pub field_refused : (v b : ℕ) → Ok v ≡ speed_of s.speed → Ok b ≡ pressure_of s.pressure
      → sample_refusal s ≡ cond (record_in_range (record_with s v b)) 0 (number BadField)
  unfolding sample_refusal number_of record_refusal number
  field_refused v b h k = rw (record_read v b h k, ← h, ← k) (first_zero _ ∙ first_zero _)
