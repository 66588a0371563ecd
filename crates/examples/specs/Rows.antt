-- The starred "Numbers to try", and a few of ours, as the rows of one table: what the definitions give, beside what the paper says.
-- A row that speaks of ticks is read off a whole drive: every tick of it by `advance`, from a fresh desk of card K.
use Rattle.std.specs.Prelude.{ℕ, ◌+◌, ◌-◌, cond, List, [], ◌∷◌, map, take, Float}
use Rattle.reading.specs.Number.{quantity}
use Rattle.reading.specs.Bits.{float_of_bits}
use Rattle.refusal.specs.Number.{value_of}
use Rattle.reading.specs.Speed.{speed_of}
use Rattle.record.specs.Codes.{none, stop, warning, clear}
use Rattle.record.specs.Flags.{vigilance, man}
use Rattle.rules.specs.declared.AfterTick.{AfterTick}
use Rattle.examples.specs.Drive.{fields, stands, drives, presses, backs, Runs, ticks, taken, at_end}

-- what the definitions give, and what the paper says it is
pub record Row : Type 0 where
  pub what : List ℕ
  pub is : List ℕ

-- claims about one thing, each a look at it and the number that is seen
abbrev row : {A : Type 0} → A → List ((A → ℕ) × ℕ) → Row
row thing claims = record { what = map (λ claim. claim.0 thing) claims; is = map (λ claim. claim.1) claims }

-- claims about the end of a drive, whose ticks are all taken
abbrev ends : Runs → List ((AfterTick → ℕ) × ℕ) → Row
ends runs claims = row (at_end runs) ((λ x. cond (taken runs) 1 0, 1) ∷ claims)

-- ---- looks at a float in m/s: the fraction that it is; v
abbrev numerator : Float → ℕ
numerator x = quantity 0 (λ n d. n) x

abbrev denominator : Float → ℕ
denominator x = quantity 0 (λ n d. d) x

abbrev tenths : Float → ℕ
tenths x = value_of 0 (speed_of x)

-- ---- looks at the answer: P; T; marks, where a curve is 2, a one-time prompt 8 and its kind 1 adds 16; causes, where NZ2 is 2 and NZ3 is 4; lowest cause
abbrev permitted : AfterTick → ℕ
permitted x = x.answer.permitted

abbrev target : AfterTick → ℕ
target x = x.answer.target

abbrev marks : AfterTick → ℕ
marks x = x.answer.marks

abbrev causes : AfterTick → ℕ
causes x = x.answer.causes

abbrev lowest : AfterTick → ℕ
lowest x = x.answer.lowest

-- ---- looks at the state: V0, E and w of the curve; M; kind and q of cyclic vigilance
abbrev start : AfterTick → ℕ
start x = x.state.signal.curve.start

abbrev driven : AfterTick → ℕ
driven x = x.state.signal.curve.driven

abbrev prompted : AfterTick → ℕ
prompted x = x.state.signal.curve.prompted

abbrev man_speed : AfterTick → ℕ
man_speed x = x.state.signal.man

abbrev kind : AfterTick → ℕ
kind x = x.state.cyclic.kind

abbrev count : AfterTick → ℕ
count x = x.state.cyclic.ticks

-- ---- the drives

-- Clear, then another code, whose curve begins in its first tick; then n ticks at 2000 and one at v, so that E is 2000·n + v
abbrev clear_to : ℕ → ℕ → ℕ → Runs
clear_to code n v = (10, stands clear) ∷ (1, stands code) ∷ (n, drives 2000 code) ∷ (1, drives v code) ∷ []

-- under Warning up to E 250,000, then so many ticks at a stand, and so many without code
abbrev stopped : ℕ → ℕ → Runs
stopped standing gap = (10, stands clear) ∷ (1, stands warning) ∷ (125, drives 2000 warning) ∷ (standing, stands warning) ∷ (gap, stands none) ∷ []

-- at v, Clear to another code, up to the n-th tick after the curve's first
abbrev clear_into : ℕ → ℕ → ℕ → Runs
clear_into code v n = (10, stands clear) ∷ (10, drives v clear) ∷ (1 + n, drives v code) ∷ []

-- at v, Clear to Stop, the same, with a vigilance press in the 20th tick after the first: it confirms the start prompt and keeps the cyclic one away
abbrev confirmed : ℕ → ℕ → Runs
confirmed v n =
    (10, stands clear)
    ∷ (10, drives v clear)
    ∷ (20, drives v stop)
    ∷ (1, presses vigilance v stop)
    ∷ (n - 20, drives v stop)
    ∷ []

-- MAN entered at v by a press, under Stop with its curve running; then a tick at each of the next speeds
abbrev under_man : ℕ → List ℕ → Runs
under_man v next =
    (10, stands clear)
    ∷ (10, drives v clear)
    ∷ (10, drives v stop)
    ∷ (1, presses man v stop)
    ∷ map (λ w. (1, drives w stop)) next

-- a tick at v under Clear
abbrev clear_at : ℕ → Runs
clear_at v = (10, stands clear) ∷ (1, drives v clear) ∷ []

-- n ticks backward at v, the lever forward
abbrev wrong_way : ℕ → ℕ → Runs
wrong_way v n = (10, stands clear) ∷ (n, backs v clear) ∷ []

-- Warning without a curve at 1000, until the count of under_increased vigilance is q
abbrev under_increased : ℕ → Runs
under_increased q = (10, stands warning) ∷ (1 + q, drives 1000 warning) ∷ []

-- the same, then a press
abbrev pressed_at : ℕ → Runs
pressed_at q = (10, stands warning) ∷ (1 + q, drives 1000 warning) ∷ (1, presses vigilance 1000 warning) ∷ []

-- the exercise that the paper prints, and its line after some runs: the ticks so far, P, T, causes, lowest cause
abbrev exercise : Runs
exercise =
    (10, fields 0 4 2 1 72 2 0)
    ∷ (100, fields 1200 4 2 1 64 2 1)
    ∷ (100, fields 1200 2 2 1 64 2 1)
    ∷ (1, fields 1200 2 2 1 64 2 1)
    ∷ (1, fields 0 2 2 1 73 2 0)
    ∷ []

abbrev line : Runs → ℕ → ℕ → ℕ → ℕ → ℕ → Row
line runs n p t mask first =
    ends runs ((λ x. ticks runs, n) ∷ (permitted, p) ∷ (target, t) ∷ (causes, mask) ∷ (lowest, first) ∷ [])

-- ---- the table, in the paper's order
unfoldable pub rows : List Row
rows =
    -- "0.125 m/s is 5; 10 is 360": 1 / 8 and 10 / 1, by their bits
    row (float_of_bits 0x3e000000) ((numerator, 1) ∷ (denominator, 8) ∷ (tenths, 5) ∷ [])
    ∷ row (float_of_bits 0x41200000) ((numerator, 10) ∷ (denominator, 1) ∷ (tenths, 360) ∷ [])
    -- "Clear to Warning 1201 at E 310,444, ends at 310,445": P is the signal speed where that is below 1400
    ∷ ends (clear_to warning 155 444) ((driven, 310444) ∷ (start, 1600) ∷ (permitted, 1201) ∷ [])
    ∷ ends (clear_to warning 155 445) ((driven, 0) ∷ (start, 0) ∷ (permitted, 1200) ∷ [])
    -- "Clear to Stop 2 at 711,110, ends at 711,111"
    ∷ ends (clear_to stop 355 1110) ((driven, 711110) ∷ (start, 1600) ∷ (permitted, 2) ∷ [])
    ∷ ends (clear_to stop 355 1111) ((driven, 0) ∷ (start, 0) ∷ (permitted, 0) ∷ [])
    -- "v 1200 Clear to Stop: start prompt, D first true at the 176th tick after the first": D ahead gives the prompt of kind 1 and sets w
    ∷ ends (clear_into stop 1200 0) ((driven, 0) ∷ (marks, 10) ∷ (prompted, 0) ∷ [])
    ∷ ends (confirmed 1200 175) ((driven, 210000) ∷ (marks, 2) ∷ (prompted, 0) ∷ [])
    ∷ ends (confirmed 1200 176) ((driven, 211200) ∷ (marks, 26) ∷ (prompted, 1) ∷ [])
    -- "v 1400: the 36th tick, no start prompt"
    ∷ ends (clear_into stop 1400 0) ((driven, 0) ∷ (marks, 2) ∷ (prompted, 0) ∷ [])
    ∷ ends (clear_into stop 1400 35) ((driven, 49000) ∷ (marks, 2) ∷ (prompted, 0) ∷ [])
    ∷ ends (clear_into stop 1400 36) ((driven, 50400) ∷ (marks, 26) ∷ (prompted, 1) ∷ [])
    -- ours: T holds the value up, so that D is never true within the tolerance above T; just beyond it, it is
    ∷ ends (clear_into warning 1230 160) ((driven, 196800) ∷ (prompted, 0) ∷ [])
    ∷ ends (clear_into warning 1231 152) ((driven, 187112) ∷ (prompted, 0) ∷ [])
    ∷ ends (clear_into warning 1231 153) ((driven, 188343) ∷ (prompted, 1) ∷ [])
    -- ours: at a stand the curve stands; a new curve starts from its value
    ∷ ends (stopped 0 0) ((driven, 250000) ∷ (start, 1600) ∷ (permitted, 1288) ∷ [])
    ∷ ends (stopped 100 0) ((driven, 250000) ∷ (start, 1600) ∷ (permitted, 1288) ∷ [])
    ∷ ends (stopped 0 1) ((driven, 0) ∷ (start, 1288) ∷ (permitted, 1288) ∷ [])
    -- "MAN entered at 1350, then 1300, 1320, 1100, 1250: M is 1350, 1300, 1300, 1200, 1200 (Stop)"
    ∷ ends (under_man 1350 []) ((man_speed, 1350) ∷ [])
    ∷ ends (under_man 1350 (1300 ∷ [])) ((man_speed, 1300) ∷ [])
    ∷ ends (under_man 1350 (1300 ∷ 1320 ∷ [])) ((man_speed, 1300) ∷ [])
    ∷ ends (under_man 1350 (1300 ∷ 1320 ∷ 1100 ∷ [])) ((man_speed, 1200) ∷ [])
    ∷ ends (under_man 1350 (1300 ∷ 1320 ∷ 1100 ∷ 1250 ∷ [])) ((man_speed, 1200) ∷ [])
    -- "P 1400: 1430 passes, 1431 triggers"
    ∷ ends (clear_at 1430) ((permitted, 1400) ∷ (causes, 0) ∷ [])
    ∷ ends (clear_at 1431) ((permitted, 1400) ∷ (causes, 2) ∷ [])
    -- "Wrong way at 360: tick 10 triggers, 9 not"
    ∷ ends (wrong_way 360 10) ((causes, 4) ∷ [])
    ∷ ends (wrong_way 360 9) ((causes, 0) ∷ [])
    -- "Increased: press at old q 84 ignored, 85 taken"
    ∷ ends (under_increased 84) ((kind, 2) ∷ (count, 84) ∷ [])
    ∷ ends (pressed_at 84) ((kind, 2) ∷ (count, 85) ∷ [])
    ∷ ends (under_increased 85) ((kind, 2) ∷ (count, 85) ∷ [])
    ∷ ends (pressed_at 85) ((kind, 2) ∷ (count, 0) ∷ [])
    -- the lines that the exercise prints
    ∷ line (take 1 exercise) 10 1400 1600 0 0
    ∷ line (take 2 exercise) 110 1400 1600 0 0
    ∷ line (take 3 exercise) 210 1400 1200 0 0
    ∷ line (take 4 exercise) 211 1400 1200 1 1
    ∷ line (take 5 exercise) 212 1400 1200 0 0
    ∷ []
