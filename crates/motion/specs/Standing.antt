-- Step 9, NZ5: standing without the direct brake.
use Rattle.std.specs.Prelude.{ℕ, ◌+◌, ◌-◌, min, Bool, not, ◌&&◌, cond, leb, eqb}
use Rattle.reading.specs.Pressure.{top_band}
use Rattle.card.specs.declared.Card.{Card}
use Rattle.record.specs.declared.Record.{Record}
use Rattle.record.specs.declared.Keys.{Keys}
use Rattle.record.specs.Modes.{pre_or_vyl}
use Rattle.motion.specs.declared.StandingStep.{StandingStep}

-- v = 0, direct brake off and band 2
abbrev pub unbraked : Record → Keys → Bool
unbraked reading keys = eqb reading.v 0 && not keys.brake && eqb reading.band top_band

-- held: NZ5 was held before this tick
module _ (card : Card) (mode : ℕ) (reading : Record) (keys : Keys) (held : Bool) (standing : ℕ) where
  -- with v = 0, direct brake off and band 2, h = min(wait, h + 1), else h = 0
  unfoldable pub counted : ℕ
  counted = cond (unbraked reading keys) (min card.wait (standing + 1)) 0

  abbrev pub pressed_while_held : Bool
  pressed_while_held = keys.vigilance && held

  -- a vigilance press while NZ5 is held sets h = 0; other modes keep h
  unfoldable pub standing_now : ℕ
  standing_now = cond (pre_or_vyl mode) (cond pressed_while_held 0 counted) standing

  -- h = wait triggers
  unfoldable pub standing_triggers : Bool
  standing_triggers = pre_or_vyl mode && eqb standing_now card.wait

  -- ZS20 sounds from h = wait − 100
  unfoldable pub standing_sounds : Bool
  standing_sounds = pre_or_vyl mode && leb (card.wait - 100) standing_now

  abbrev pub step_9_standing : StandingStep
  step_9_standing = record { standing = standing_now; triggers = standing_triggers; sounds = standing_sounds }
