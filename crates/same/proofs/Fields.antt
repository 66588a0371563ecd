-- Two structs are equal exactly where the equality derived for them, which compares every field, says yes.
use mathlib.Core.Path.{◌≡◌}
use mathlib.Core.Bool.{true}
use mathlib.Core.Logic.{◌↔◌}
use Rattle.std.proofs.Common.{arith}
use Rattle.std.proofs.lemmas.Grind.{common_steps}
use Rattle.card.specs.declared.Card.{Card}
use Rattle.codes.specs.declared.Codes.{Codes}
use Rattle.signal.specs.declared.Curve.{Curve}
use Rattle.signal.specs.declared.Signal.{Signal}
use Rattle.onetime.specs.declared.Prompt.{Prompt}
use Rattle.cyclic.specs.declared.Cyclic.{Cyclic}
use Rattle.state.specs.declared.State.{State}
use Rattle.desk.specs.declared.Desk.{Desk}
use Rattle.card.specs.contracts.CardPartialEq.TheImpl as card
use Rattle.codes.specs.contracts.CodesPartialEq.TheImpl as codes
use Rattle.signal.specs.contracts.CurvePartialEq.TheImpl as curve
use Rattle.signal.specs.contracts.SignalPartialEq.TheImpl as signal
use Rattle.onetime.specs.contracts.PromptPartialEq.TheImpl as prompt
use Rattle.cyclic.specs.contracts.CyclicPartialEq.TheImpl as cyclic
use Rattle.state.specs.contracts.StatePartialEq.TheImpl as state
use Rattle.desk.specs.contracts.DeskPartialEq.TheImpl as desk

pub same_card : (a b : Card) → (card.eq-value.it a b ≡ true) ↔ (a ≡ b)
same_card a b = grind (arith, common_steps)

pub same_codes : (a b : Codes) → (codes.eq-value.it a b ≡ true) ↔ (a ≡ b)
same_codes a b = grind (arith, common_steps)

pub same_curve : (a b : Curve) → (curve.eq-value.it a b ≡ true) ↔ (a ≡ b)
same_curve a b = grind (arith, common_steps)

pub same_signal : (a b : Signal) → (signal.eq-value.it a b ≡ true) ↔ (a ≡ b)
same_signal a b = grind (arith, common_steps)

pub same_prompt : (a b : Prompt) → (prompt.eq-value.it a b ≡ true) ↔ (a ≡ b)
same_prompt a b = grind (arith, common_steps)

pub same_cyclic : (a b : Cyclic) → (cyclic.eq-value.it a b ≡ true) ↔ (a ≡ b)
same_cyclic a b = grind (arith, common_steps)

pub same_state : (a b : State) → (state.eq-value.it a b ≡ true) ↔ (a ≡ b)
same_state a b = grind (arith, common_steps)

pub same_desk : (a b : Desk) → (desk.eq-value.it a b ≡ true) ↔ (a ≡ b)
same_desk a b = grind (arith, common_steps)
