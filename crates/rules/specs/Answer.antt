-- The answer: its marks, its bytes, zeros.
use Rattle.std.specs.Prelude.{ℕ, ◌+◌, cond, List, [], ◌∷◌, ◌++◌, ltb, get_or}
use Rattle.layout.specs.Layout.{u16_at, u16_bytes, put}
use Rattle.signal.specs.declared.Signal.{Signal}
use Rattle.signal.specs.Speed.{man_on, curve_runs}
use Rattle.cyclic.specs.declared.CyclicStep.{CyclicStep}
use Rattle.onetime.specs.declared.Prompt.{Prompt}
use Rattle.onetime.specs.OneTime.{prompting}
use Rattle.motion.specs.declared.StandingStep.{StandingStep}
use Rattle.rules.specs.declared.Answer.{Answer}

-- the weights of the marks, from bit 0
abbrev pub man_mark : ℕ
man_mark = 1

abbrev pub curve_mark : ℕ
curve_mark = 2

-- cyclic prompt
abbrev pub cyclic_mark : ℕ
cyclic_mark = 4

-- one-time prompt, and its kind
abbrev pub one_time_mark : ℕ
one_time_mark = 8

abbrev pub kind_mark : ℕ
kind_mark = 16

-- ZS20
abbrev pub zs20_mark : ℕ
zs20_mark = 32

unfoldable pub marks : Signal → CyclicStep → Prompt → StandingStep → ℕ
marks signal cyclic prompt standing =
    cond (man_on signal.man) man_mark 0
    + cond (curve_runs signal.curve) curve_mark 0
    + cond cyclic.prompts cyclic_mark 0
    + cond (prompting prompt) one_time_mark 0
    + cond (ltb 0 prompt.kind) kind_mark 0
    + cond standing.sounds zs20_mark 0

-- how many bytes an answer takes
abbrev pub answer_width : ℕ
answer_width = 8

abbrev pub answer_bytes : Answer → List ℕ
answer_bytes answer = u16_bytes answer.permitted ++ u16_bytes answer.target ++ (answer.marks ∷ answer.causes ∷ answer.lowest ∷ answer.held ∷ [])

unfoldable pub answer_at : List ℕ → ℕ → Answer
answer_at bytes at =
    record {
      permitted = u16_at bytes at;
      target = u16_at bytes (at + 2);
      marks = get_or bytes (at + 4) 0;
      causes = get_or bytes (at + 5) 0;
      lowest = get_or bytes (at + 6) 0;
      held = get_or bytes (at + 7) 0;
    }

-- where the bytes do not fit, nothing is written
unfoldable pub put_answer : List ℕ → ℕ → Answer → List ℕ
put_answer bytes at a = put bytes at (answer_bytes a)

abbrev pub no_answer : Answer
no_answer = record { permitted = 0; target = 0; marks = 0; causes = 0; lowest = 0; held = 0 }
