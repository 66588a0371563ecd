-- The reasons of refusal, in the paper's words and numbers, call by call in the paper's order; and what "given exactly when" says of them.
use Rattle.std.specs.Prelude.{ℕ, suc, min, ◌+◌, ◌-◌, ◌*◌, ◌/◌, ◌≤◌, ◌<◌, ◌≡◌, true, ◌⊎◌, ◌↔◌, List, Float, length}
use Rattle.std.specs.Float.{nan, inf, fin}
use Rattle.std.specs.Float.Ieee.{up, down}
use Rattle.layout.specs.Layout.{u16_at}
use Rattle.card.specs.declared.Card.{Card}
use Rattle.record.specs.declared.Sample.{Sample}
use Rattle.record.specs.Record.{record_at}
use Rattle.rules.specs.After.{after}
use Rattle.desk.specs.declared.Desk.{Desk}
use Rattle.file.specs.File.{card_count, run_count, card_in, run_ticks, run_record}
use Rattle.file.specs.Runs.{ticks_to}
use Rattle.file.specs.Read.{tick_count}
use Rattle.demands.specs.Ranges.{Between, CardFits, RecordFits, DeskFits}

-- numbers of refusal with their reasons, in the order in which they are looked for
pub data Reasons : Type 1 where
  none : Reasons
  reason : ℕ → Type 0 → Reasons → Reasons

-- each number is given exactly when its reason holds and none before it does; the call is accepted exactly when none holds.
-- `so_far`: none of the reasons before these holds
unfoldable pub ExactlyFrom : Type 0 → ℕ → Reasons → Type 0
ExactlyFrom so_far x none = (x ≡ 0) ↔ so_far
ExactlyFrom so_far x (reason number holds rest) =
    ((x ≡ number) ↔ (so_far × holds)) × ExactlyFrom (so_far × (holds → ⊥)) x rest

abbrev pub ExactlyWhen : ℕ → Reasons → Type 0
ExactlyWhen = ExactlyFrom (Unit {0})

-- ---- a sample
-- v is the floor of 36x + 1/2 for x = n / d: v ≤ 36x + 1/2 < v + 1, times 2d
abbrev pub FloorOf : ℕ → ℕ → ℕ → Type 0
FloorOf n d v = (2 * d * v ≤ 72 * n + d) × (72 * n + d < 2 * d * (v + 1))

-- a finite float is ± m * 2 ^ e, and 2 ^ e is up e / down e. Minus zero counts as zero; any other number with a minus is a bad speed, below
unfoldable pub SpeedIs : Float → ℕ → Type 0
SpeedIs nan v = ⊥
SpeedIs (inf minus) v = ⊥
SpeedIs (fin minus m e) v = FloorOf (m * up e) (down e) v

-- NaN, infinity, below zero, v above 2500
unfoldable pub BadSpeed : Float → Type 0
BadSpeed nan = Unit
BadSpeed (inf minus) = Unit
BadSpeed (fin minus m e) = ((minus ≡ true) × (0 < m)) ⊎ ((v : ℕ) × (2500 < v) × FloorOf (m * up e) (down e) v)

-- not from 0 to 10
unfoldable pub BadPressure : Float → Type 0
BadPressure nan = Unit
BadPressure (inf minus) = Unit
BadPressure (fin minus m e) = ((minus ≡ true) × (0 < m)) ⊎ (10 * down e < m * up e)

-- band 0 is below 3.5, band 1 from 3.5 to below 4.5, band 2 from 4.5: for n / d bar
abbrev pub BandOf : ℕ → ℕ → ℕ → Type 0
BandOf n d band =
    ((band ≡ 0) × (2 * n < 7 * d)) ⊎ (((band ≡ 1) × (7 * d ≤ 2 * n) × (2 * n < 9 * d)) ⊎ ((band ≡ 2) × (9 * d ≤ 2 * n)))

unfoldable pub BandIs : Float → ℕ → Type 0
BandIs nan band = ⊥
BandIs (inf minus) band = ⊥
BandIs (fin minus m e) band = BandOf (m * up e) (down e) band

pub record SwitchesFit (sample : Sample) : Type 0 where
  pub code : sample.code ≤ 4
  pub mode : Between 1 sample.mode 4
  pub lever : sample.lever ≤ 2
  pub flags : sample.flags ≤ 127
  pub sense : sample.sense ≤ 2

-- ---- the calls on a desk
abbrev pub open_reasons : Card → Reasons
open_reasons card = reason 4 (CardFits card → ⊥) none

-- capacity is the lesser of 7,200 and journal length / 8, rounded down
abbrev pub tick_reasons : Desk → Sample → List ℕ → Reasons
tick_reasons desk sample journal =
    reason 5 (DeskFits desk → ⊥)
    (reason 6 (length journal < 8 * desk.n)
    (reason 7 (min 7200 (length journal / 8) ≤ desk.n)
    (reason 1 (BadSpeed sample.speed)
    (reason 2 (BadPressure sample.pressure)
    (reason 3 (SwitchesFit sample → ⊥) none)))))

-- 9: of a record among the survivors
abbrev pub back_reasons : Desk → ℕ → List ℕ → Reasons
back_reasons desk k journal =
    reason 5 (DeskFits desk → ⊥)
    (reason 6 (length journal < 8 * desk.n)
    (reason 8 (desk.n < k)
    (reason 9 ((i : ℕ) × (i < desk.n - k) × (RecordFits (record_at journal (8 * i)) → ⊥)) none)))

abbrev pub restart_reasons : Desk → Reasons
restart_reasons desk = reason 5 (DeskFits desk → ⊥) none

-- 9: of any of the n records. 23: the desk is not the one that they rebuild. 14: no cause is held
abbrev pub why_reasons : Desk → List ℕ → Reasons
why_reasons desk journal =
    reason 5 (DeskFits desk → ⊥)
    (reason 6 (length journal < 8 * desk.n)
    (reason 9 ((i : ℕ) × (i < desk.n) × (RecordFits (record_at journal (8 * i)) → ⊥))
    (reason 23
    (desk ≡ record { card = desk.card; n = desk.n; state = (after desk.card (λ i. record_at journal (8 * i)) desk.n).state } → ⊥)
    (reason 14 (desk.state.causes ≡ 0) none))))

-- ---- the exercise file
-- not shorter than its header, counts in range, and offsets, total and real length as the counts give
pub record HeaderFits (file : List ℕ) : Type 0 where
  pub header : 10 ≤ length file
  pub cards : Between 1 (u16_at file 0) 8
  pub runs : u16_at file 2 ≤ 6000
  pub cards_at : u16_at file 4 ≡ 10
  pub runs_at : u16_at file 6 ≡ 10 + 20 * u16_at file 0
  pub total : u16_at file 8 ≡ 10 + 20 * u16_at file 0 + 10 * u16_at file 2
  pub real : length file ≡ 10 + 20 * u16_at file 0 + 10 * u16_at file 2

module _ (file : List ℕ) where
  abbrev pub BadCard : Type 0
  BadCard = (i : ℕ) × (i < card_count file) × (CardFits (card_in file i) → ⊥)

  -- 0 ticks, or sum over 7,200; `ticks_to file j` are the ticks of the first j runs
  abbrev pub BadTicks : ℕ → Type 0
  BadTicks j = (run_ticks file j ≡ 0) ⊎ (7200 < ticks_to file (suc j))

  pub record RunFits (j : ℕ) : Type 0 where
    pub ticks : BadTicks j → ⊥
    pub record_fits : RecordFits (run_record file j)

  -- each run in turn 11 then 9: of the first run that does not fit
  abbrev pub TicksFirst : Type 0
  TicksFirst = (j : ℕ) × (j < run_count file) × ((i : ℕ) → i < j → RunFits i) × BadTicks j

  abbrev pub RecordFirst : Type 0
  RecordFirst = (j : ℕ) × (j < run_count file) × ((i : ℕ) → i < j → RunFits i) × (BadTicks j → ⊥) × (RecordFits (run_record file j) → ⊥)

  abbrev pub read_reasons : Reasons
  read_reasons =
      reason 10 (HeaderFits file → ⊥)
      (reason 4 BadCard
      (reason 11 TicksFirst
      (reason 9 RecordFirst none)))

  -- 13: cards count from 1. 12: below 8 bytes a tick
  abbrev pub exercise_reasons : ℕ → List ℕ → Reasons
  exercise_reasons card buffer =
      reason 10 (HeaderFits file → ⊥)
      (reason 4 BadCard
      (reason 13 (Between 1 card (card_count file) → ⊥)
      (reason 11 TicksFirst
      (reason 9 RecordFirst
      (reason 12 (length buffer < 8 * tick_count file) none)))))
