-- What the call for a text answers: for which reason it refuses, and else the message; the other table has no influence on it.
-- From its contract, by the laws of `texts`. Assumes nothing.
use Rattle.std.specs.Prelude.{ℕ, List}
use Rattle.std.specs.Borrow.{Bor}
use mathlib.Core.Path.{◌≡◌}
use contract.Lifetimes.{Lfts}
use Rattle.numbers.proofs.Alike.{alike}
use Rattle.texts.specs.Text.{chosen}
use Rattle.texts.proofs.Answers.{Answer, answer}
use Rattle.foldharbor.proofs.foldharbor_text.Reads as telling

-- two calls whose chosen tables have the same bytes answer alike
pub text_alone : (κs : Lfts 1) (first second first' second' : Bor (List ℕ)) (language number : ℕ) (x y : _) (s t : _)
    → (chosen language first second).now ≡ (chosen language first' second').now
    → telling.Post κs (first, (second, (language, (number, tt)))) x s → telling.Post κs (first', (second', (language, (number, tt)))) y t → x ≡ y
text_alone κs first second first' second' language number x y s t same p q = alike (rw same at p) q

-- refused for its reason, with zeros then, and else the message
pub text_answer : (κs : Lfts 1) (first second language number : _) (x s : _)
    → telling.Post κs (first, (second, (language, (number, tt)))) x s → Answer (chosen language first second).now language number x
text_answer κs first second language number x s post = rw post (answer _ _ _)
