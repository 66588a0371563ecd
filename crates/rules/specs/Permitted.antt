-- Step 6: the permitted speed P.
use Rattle.std.specs.Prelude.{ℕ, min, cond, eqb}
use Rattle.card.specs.declared.Card.{Card}
use Rattle.record.specs.Modes.{pos, pre, vyl}

abbrev pub pre_ceiling : ℕ
pre_ceiling = 1600

abbrev pub vyl_ceiling : ℕ
vyl_ceiling = 1200

-- POS and ZAV from the card
unfoldable pub ceiling : Card → ℕ → ℕ
ceiling card mode = cond (eqb mode pos) card.pos (cond (eqb mode pre) pre_ceiling (cond (eqb mode vyl) vyl_ceiling card.zav))

abbrev pub least_of : Card → ℕ → ℕ
least_of card mode = min (min card.design (ceiling card mode)) (min card.set card.highest)

-- the least of design, mode ceiling, set, highest and, in PRE, signal speed
unfoldable pub step_6_permitted : Card → ℕ → ℕ → ℕ
step_6_permitted card mode speed =
    cond (eqb mode pre) (min (least_of card mode) speed) (least_of card mode)
