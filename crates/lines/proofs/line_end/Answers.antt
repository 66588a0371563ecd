-- The line ends at the first line end that is left, else with the text.
use Rattle.std.proofs.Common.{◌≡◌, ◌-◌, ◌∙◌, sym, length, take, drop, ap, arith, length-drop}
use lib.Seq.{take-length}
use Rattle.lines.proofs.Split.{line_found, line_whole}
use Rattle.lines.proofs.line_end.Goals as goal

pub returns-in-Some : goal.returns-in-Some
returns-in-Some c =
    let text = c.args.text.now in
    let left = length-drop c.args.at text in
    let rest : take (length text - c.args.at) (drop c.args.at text) ≡ drop c.args.at text =
    ap (λ k. take k (drop c.args.at text)) (sym left) ∙ take-length _ in
    let found = line_found (drop c.args.at text) c.in-Some.length (rw rest at (sym c.first_end.ensures) ∙ c.in-Some.is) in
    (omega arith, omega arith)

pub returns-in-None : goal.returns-in-None
returns-in-None c =
    let text = c.args.text.now in
    let left = length-drop c.args.at text in
    let rest : take (length text - c.args.at) (drop c.args.at text) ≡ drop c.args.at text =
    ap (λ k. take k (drop c.args.at text)) (sym left) ∙ take-length _ in
    let whole = line_whole (drop c.args.at text) (rw rest at (sym c.first_end.ensures) ∙ c.in-None.is) in
    (omega arith, omega arith)
