-- The marks of the answer that no other row sees: bit 0 MAN, bit 2 the cyclic prompt from q = L - 35, bit 5 ZS20 from h = wait - 100.
-- Read off whole drives of card K (cycle 200, wait 250), and off a tick on a desk of another card (cycle 600, wait 1000).
use Rattle.std.specs.Prelude.{ℕ, ◌+◌, cond, List, [], ◌∷◌, ◌++◌, get_or, set, replicate}
use Rattle.rules.specs.Tick.{advance}
use Rattle.examples.specs.Drive.{fields, stands, drives, presses, Runs, taken, at_end}
use Rattle.examples.specs.Literals.{desk_of, desk_k, state_numbers, answer_numbers}
use Rattle.examples.specs.Rows.{Row}

-- after a drive, whose ticks are all taken: marks, q and h
abbrev shows : Runs → ℕ → ℕ → ℕ → Row
shows runs marks q h = record {
  what =
      cond (taken runs) 1 0
      ∷ get_or (answer_numbers (at_end runs).answer) 2 0
      ∷ get_or (state_numbers (at_end runs).state) 13 0
      ∷ get_or (state_numbers (at_end runs).state) 15 0
      ∷ [];
  is = 1 ∷ marks ∷ q ∷ h ∷ [];
}

-- Clear at 360 until ordinary vigilance has come to q
abbrev ordinary : ℕ → Runs
ordinary q = (10, stands 4) ∷ (1 + q, drives 360 4) ∷ []

-- Warning without a curve at 1000 until increased vigilance has come to q
abbrev increased : ℕ → Runs
increased q = (10, stands 2) ∷ (1 + q, drives 1000 2) ∷ []

-- standing without the direct brake until h
abbrev unbraked : ℕ → Runs
unbraked h = (10, stands 4) ∷ (h, fields 0 4 2 1 64 2 0) ∷ []

-- a MAN press on the curve to Stop
abbrev under_man : Runs
under_man = (10, stands 4) ∷ (10, drives 1350 4) ∷ (10, drives 1350 1) ∷ (1, presses 4 1350 1) ∷ []

-- in PRE under Clear, from an ordinary q and an h: a tick at v
abbrev marks_from : ℕ → ℕ → ℕ → ℕ → Row
marks_from q h v marks =
    let desk = desk_of (set (set (desk_k (0 ∷ 2 ∷ 0 ∷ 4 ∷ replicate 9 0 ++ (1 ∷ q ∷ 0 ∷ h ∷ 0 ∷ []))) 8 600) 9 1000) in
    record { what = get_or (answer_numbers (advance desk.card desk.state (fields v 4 2 1 64 2 1)).answer) 2 0 ∷ []; is = marks ∷ [] }

unfoldable pub marks : List Row
marks =
    shows under_man 1 0 0
    -- L is 200
    ∷ shows (ordinary 164) 0 164 0
    ∷ shows (ordinary 165) 4 165 0
    ∷ shows (ordinary 199) 4 199 0
    ∷ shows (ordinary 200) 0 0 0
    -- L is 120
    ∷ shows (increased 84) 0 84 0
    ∷ shows (increased 85) 4 85 0
    ∷ shows (increased 119) 4 119 0
    ∷ shows (increased 120) 0 0 0
    -- the wait is 250
    ∷ shows (unbraked 149) 0 0 149
    ∷ shows (unbraked 150) 32 0 150
    ∷ shows (unbraked 250) 32 0 250
    -- to q = 564 and 565 of 600, to h = 899 and 900 of 1000
    ∷ marks_from 563 0 360 0
    ∷ marks_from 564 0 360 4
    ∷ marks_from 0 898 0 0
    ∷ marks_from 0 899 0 32
    ∷ []
