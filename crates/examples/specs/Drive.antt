-- Drives: so many ticks of one record, then so many of the next, from a fresh desk of card K.
use Rattle.std.specs.Prelude.{ℕ, ◌+◌, ◌-◌, Bool, ◌&&◌, cond, List, [], ◌∷◌, ltb}
use Rattle.card.specs.declared.Card.{Card}
use Rattle.card.specs.Card.{card_in_range}
use Rattle.record.specs.declared.Record.{Record}
use Rattle.record.specs.Codes.{none}
use Rattle.record.specs.Modes.{pre}
use Rattle.record.specs.Flags.{brake, cab}
use Rattle.record.specs.Record.{record_in_range}
use Rattle.rules.specs.declared.AfterTick.{AfterTick}
use Rattle.rules.specs.After.{after}

abbrev pub card_k : Card
card_k = record {
  design = 1600;
  set = 1400;
  highest = 1400;
  pos = 400;
  zav = 1000;
  tolerance = 30;
  stop = 0;
  deceleration = 18;
  cycle = 200;
  wait = 250;
}

-- the fields of a record, in the paper's order
abbrev pub fields : ℕ → ℕ → ℕ → ℕ → ℕ → ℕ → ℕ → Record
fields v code mode lever flags band sense =
    record { v = v; code = code; mode = mode; lever = lever; flags = flags; band = band; sense = sense }

-- in PRE, cab on, lever forward, band 2: the train stands, its direct brake on
abbrev pub stands : ℕ → Record
stands code = fields 0 code pre 1 (cab + brake) 2 0

-- it drives forward
abbrev pub drives : ℕ → ℕ → Record
drives v code = fields v code pre 1 cab 2 1

-- it drives forward, with a button on
abbrev pub presses : ℕ → ℕ → ℕ → Record
presses button v code = fields v code pre 1 (cab + button) 2 1

-- it goes backward
abbrev pub backs : ℕ → ℕ → Record
backs v code = fields v code pre 1 cab 2 2

-- a run is a number of ticks and their record
abbrev pub Runs : Type 0
Runs = List (ℕ × Record)

unfoldable pub ticks : Runs → ℕ
ticks [] = 0
ticks (run ∷ runs) = run.0 + ticks runs

-- the record at a place, from 0
unfoldable pub drive : Runs → ℕ → Record
drive [] place = stands none
drive (run ∷ runs) place = cond (ltb place run.0) run.1 (drive runs (place - run.0))

-- card and records are in range
unfoldable pub taken : Runs → Bool
taken [] = card_in_range card_k
taken (run ∷ runs) = record_in_range run.1 && taken runs

-- the state and the answer after the last tick
unfoldable pub at_end : Runs → AfterTick
at_end runs = after card_k (drive runs) (ticks runs)
