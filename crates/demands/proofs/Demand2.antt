-- Demand 2, `demand2`, of our functions, and `demand2_exported` of the exported calls: each number exactly when the paper says, and what an accepted
-- call gives.
-- From the contracts' equations, by the reasons in their order, the laws of each definition where it accepts, and the tick's law of ranges. Assumes nothing.
use Prim.Native.Nat.{ℕ, ◌+◌, ◌-◌, ◌*◌}
use native.Mathlib.Nat.{zero-add}
use native.Mathlib.Omega.{arith}
use mathlib.Core.Path.{◌≡◌, refl, ap, ◌∙◌}
use mathlib.Core.Bool.{Bool, true, false}
use mathlib.Core.List.{List, ◌++◌}
use lib.ListN.{length, drop}
use borrow.Author.Tests.{eq-eqb}
use Rattle.numbers.proofs.All.{all_each}
use Rattle.refusal.proofs.First.{both_zero}
use Rattle.layout.specs.Layout.{written}
use Rattle.refusal.specs.Number.{number_of}
use Rattle.reading.specs.Speed.{speed_of}
use Rattle.reading.specs.Pressure.{pressure_of}
use Rattle.card.specs.declared.Card.{Card}
use Rattle.card.specs.Card.{CardRanges, card_in_range}
use Rattle.card.specs.Laws.{card_ranges}
use Rattle.record.specs.declared.Record.{Record}
use Rattle.record.specs.declared.Sample.{Sample}
use Rattle.record.specs.Record.{record_in_range, record_at}
use Rattle.record.specs.Sample.{sample_refusal, sample_record}
use Rattle.record.specs.Laws.{record_ranges}
use Rattle.record.proofs.Refusal.{sample_in_range}
use Rattle.state.proofs.Ranges.{fresh_ranges}
use Rattle.rules.specs.Tick.{advance}
use Rattle.rules.specs.After.{after}
use Rattle.rules.proofs.Keeps.{advance_keeps}
use Rattle.rules.proofs.After.{after_ranges}
use Rattle.journal.specs.Journal.{records}
use Rattle.journal.proofs.Room.{room}
use Rattle.desk.specs.declared.Desk.{Desk}
use Rattle.desk.specs.Desk.{DeskRanges, desk_in_range}
use Rattle.desk.specs.Calls.{open_outcome, tick_refusal, tick_outcome, tick_journal, back_refusal, back_outcome, restart_outcome}
use Rattle.desk.specs.Laws.{desk_ranges, ranges_desk}
use Rattle.desk.proofs.Calls as Calls
use Rattle.why.proofs.Calls as Why
use Rattle.why.proofs.Promise.{promised}
use Rattle.file.specs.File.{card_count, run_count, card_in}
use Rattle.file.specs.Read.{tick_count, drive, read_refusal, read_outcome}
use Rattle.file.proofs.Runs.{tick_is}
use Rattle.exercise.specs.Answers.{answers}
use Rattle.exercise.specs.Run.{exercise_refusal, exercise_outcome, exercise_buffer}
use Rattle.exercise.proofs.Outcome.{run_number, buffer_yes}
use Rattle.exercise.proofs.Buffer.{answers_length}
use Rattle.demands.specs.Ranges.{DeskFits, fresh_of}
use Rattle.demands.specs.Demand2.{RecordOf, Gives, Begins, WrittenAt, Driven, Answered, Demand2}
use Rattle.demands.proofs.Functions.{functions, exported, exported_same, opens_is, ticks_is, steps_back_is, steps_back_reads, restarts_is}
use Rattle.demands.proofs.Functions.{tells_is, reads_is, runs_is, hosts_is}
use Rattle.demands.proofs.Exactly.{exactly}
use Rattle.demands.proofs.Ranges.{desk_fits}
use Rattle.demands.proofs.Readings.{speed_first, pressure_first}
use Rattle.demands.proofs.Refusals.{open_first, tick_first, back_first, restart_first, why_first, read_first, exercise_first}
use Rattle.demands.proofs.Numbers.{tick_number_lem, back_number, read_number, host_accepted, host_number_lem}

in_range : (d : Desk) → DeskRanges d → DeskFits d
in_range d h = (desk_fits d).0 (ranges_desk d h)

-- ---- opening and restart
fresh_fits : (card : Card) → CardRanges card → DeskFits (fresh_of card)
fresh_fits card good = in_range (fresh_of card) (record { card = good; n_most = omega arith; state = fresh_ranges })

open_yes : (card : Card) → (open_outcome card).refusal ≡ 0 → Begins card (open_outcome card)
unfolding open_outcome
open_yes card z = go (card_in_range card) refl
  where
    go : (b : Bool) → card_in_range card ≡ b → Begins card (open_outcome card)
    go true e = rw e (record { desk = refl; answer = refl; in_range = fresh_fits card (card_ranges card e) })
    go false e = absurd (omega (arith, rw e at z))

restart_yes : (d : Desk) → (restart_outcome d).refusal ≡ 0 → Begins d.card (restart_outcome d)
unfolding restart_outcome
restart_yes d z = go (desk_in_range d) refl
  where
    go : (b : Bool) → desk_in_range d ≡ b → Begins d.card (restart_outcome d)
    go true e = rw e (record { desk = refl; answer = refl; in_range = fresh_fits d.card (desk_ranges d e).card })
    go false e = absurd (omega (arith, rw e at z))

-- ---- the tick
record_of : (x : Sample) → sample_refusal x ≡ 0 → RecordOf x (sample_record x)
unfolding sample_refusal sample_record
record_of x z =
    let speed = both_zero (number_of (speed_of x.speed)) _ z in
    let pressure = both_zero (number_of (pressure_of x.pressure)) _ speed.1 in
    record {
      v = (speed_first x.speed).1 speed.0;
      band = (pressure_first x.pressure).1 pressure.0;
      code = refl;
      mode = refl;
      lever = refl;
      flags = refl;
      sense = refl;
    }

module _ (d : Desk) (x : Sample) (J : List ℕ) (z : tick_refusal d x J ≡ 0) where
  abbrev r : Record
  r = sample_record x

  tick_written : WrittenAt d.n r J (tick_journal d x J)
  unfolding tick_journal written
  tick_written = rw (eq-eqb _ _ z)

  tick_gives : Gives d.card (d.n + 1) (advance d.card d.state r) (tick_outcome d x J)
  tick_gives =
      let t = Calls.tick_taken _ _ _ z in
      let good = desk_ranges d t.desk.desk_good in
      let left = room _ _ t.below in
      let fine = record_ranges _ (sample_in_range x t.fine) in
      rw (Calls.tick_yes d x J z).0
      (record {
        desk = refl;
        answer = refl;
        in_range = in_range _ (record { card = good.card; n_most = omega arith; state = advance_keeps _ _ _ good.card good.state fine });
      })

-- ---- the step back
back_gives : (d : Desk) (k : ℕ) (J : List ℕ) → back_refusal d k J ≡ 0
    → Gives d.card (d.n - k) (after d.card (λ i. record_at J (8 * i)) (d.n - k)) (back_outcome d k J)
unfolding records
back_gives d k J z =
    let t = Calls.back_taken d k J z in
    let good = desk_ranges d t.desk.desk_good in
    rw (Calls.back_yes d k J z)
    (record {
      desk = refl;
      answer = refl;
      in_range =
          in_range _
          (record {
            card = good.card;
            n_most = omega (arith, good.n_most);
            state =
                after_ranges d.card (records J) (d.n - k) good.card
                (λ i l. record_ranges _ (all_each (λ j. record_in_range (records J j)) i (d.n - k) l t.good));
          });
    })

-- ---- the reader and the exercise
read_yes : (file : List ℕ) → read_refusal file ≡ 0
    → ((read_outcome file).cards ≡ card_count file) × ((read_outcome file).runs ≡ run_count file) × ((read_outcome file).ticks ≡ tick_count file)
unfolding read_outcome
read_yes file z = rw (eq-eqb _ _ z) (refl, refl, refl)

driven : (file : List ℕ) → Driven file
driven file j i l from to = tick_is file j (run_count file) i l from to

module _ (file : List ℕ) (card : ℕ) (B : List ℕ) (z : exercise_refusal file card (length B) ≡ 0) where
  run_ticks_lem : (exercise_outcome file card (length B)).ticks ≡ tick_count file
  unfolding exercise_outcome
  run_ticks_lem = rw (eq-eqb _ _ z)

  answered : Answered file card B (exercise_buffer file card B)
  unfolding written
  answered =
      buffer_yes file card B z
      ∙ ap (λ (m : ℕ). answers (card_in file (card - 1)) (drive file) (tick_count file) ++ drop m B)
      (zero-add _ ∙ answers_length (card_in file (card - 1)) (drive file) (tick_count file))

-- ---- by the contracts
pub demand2 : Demand2 functions
demand2 = record {
  opening = λ card o f.
      let e = opens_is card o f in
      rw e (exactly _ _ refl (open_first card), open_yes card);
  tick = λ d x J o K f.
      let e = ticks_is d x J o K f in
      rw (e.0, e.1) (
        rw tick_number_lem (exactly _ _ refl (tick_first d x J)),
        λ a. let z = rw tick_number_lem at a in (record_of x (Calls.tick_taken _ _ _ z).fine, tick_written d x J z, tick_gives d x J z),
      );
  step_back = λ d k J o K f.
      let e = steps_back_is d k J o K f in
      rw e (rw back_number (exactly _ _ refl (back_first d k J)), λ a. (steps_back_reads d k J o K f, back_gives d k J (rw back_number at a)));
  restart = λ d o f.
      let e = restarts_is d o f in
      rw e (exactly _ _ refl (restart_first d), restart_yes d);
  why = λ d J x K f.
      let e = tells_is d J x K f in
      rw e.0 (rw Why.why_number (exactly _ _ refl (why_first d J)), promised d J, e.1);
  reader = λ file c g f.
      let e = reads_is file c g f in
      rw e.0 (
        rw read_number (exactly _ _ refl (read_first file)),
        λ a. let y = read_yes file (rw read_number at a) in (y.0, y.1, y.2, e.1),
      );
  exercise = λ file card B x g C f.
      let e = runs_is file card B g C x f in
      rw (e.0, e.2) (
        rw run_number (exactly _ _ refl (exercise_first file card B)),
        λ a. let z = rw run_number at a in (run_ticks_lem file card B z, e.1, driven file, answered file card B z),
      );
  host = λ file card B x g C f.
      let e = hosts_is file card B g C x f in
      rw (e.0, e.2, host_number_lem) (
        exactly _ _ refl (exercise_first file card B),
        λ z. let a = host_accepted file card (length B) z in (a.0, rw a.0 a.1, e.1, driven file, answered file card B z),
      );
}

pub demand2_exported : Demand2 exported
demand2_exported = rw exported_same demand2
