-- The valve, `valve`, of our functions, and `valve_exported` of the exported calls: what an accepted call answers is what the desk holds.
-- From the contracts' equations, by what an answer says of its state (rules/proofs/Valve.antt), and by where an exercise's answers lie. Assumes nothing.
use Prim.Native.Nat.{ℕ, ◌+◌, ◌-◌, ◌*◌, ◌≤◌, ◌<◌}
use native.Mathlib.Omega.{arith}
use mathlib.Core.Path.{◌≡◌, refl, ap, ◌∙◌}
use mathlib.Core.Logic.{◌↔◌}
use mathlib.Core.List.{List, []}
use lib.ListN.{get_or, drop, get_or-append}
use native.Mathlib.Decide.{ℕ_discrete}
use lib.Dec.{eqb}
use borrow.Author.Tests.{ne_eqb}
use Rattle.numbers.proofs.Tests.{not_iff}
use Rattle.card.specs.declared.Card.{Card}
use Rattle.causes.specs.Held.{held_in, if_held, listed, lowest, how_many}
use Rattle.state.specs.declared.State.{State}
use Rattle.rules.specs.declared.Answer.{Answer}
use Rattle.rules.specs.Answer.{answer_bytes}
use Rattle.rules.specs.After.{after}
use Rattle.rules.proofs.Valve.{Shows, none_shows, advance_shows, after_shows, mask_held}
use Rattle.desk.specs.declared.Outcome.{Outcome}
use Rattle.file.specs.File.{card_in}
use Rattle.file.specs.Read.{tick_count, drive}
use Rattle.exercise.specs.Answers.{answers}
use Rattle.exercise.proofs.Buffer.{answers_length, answers_byte}
use Rattle.demands.specs.Demand2.{Begins, Answered}
use Rattle.demands.specs.Valve.{ValveIs, OfOutcome, OfEach, Valve}
use Rattle.demands.proofs.Functions.{functions, exported, exported_same}
use Rattle.demands.proofs.Demand2.{demand2}

none_listed : listed (held_in 0) ≡ []
unfolding listed if_held held_in
none_listed = refl

byte_none : (m : ℕ) → m ≤ 31 → (m ≡ 0) ↔ (listed (held_in m) ≡ [])
byte_none m few = (λ e. rw e none_listed, go (ℕ_discrete m 0))
  where
    go : Dec (m ≡ 0) → listed (held_in m) ≡ [] → m ≡ 0
    go (yes e) n = e
    go (no f) n = absurd ((mask_held m few).0 ((not_iff (eqb m 0)).1 (ne_eqb m 0 f)) n)

not_both : {A B : Type 0} → A ↔ B → (A → ⊥) ↔ (B → ⊥)
not_both e = (λ n y. n (e.1 y), λ n x. n (e.0 x))

valve_is : (a : Answer) (s : State) → Shows a s → ValveIs a.causes a.lowest a.held s
unfolding lowest how_many
valve_is a s w = record {
  open_when = rw w.causes (not_both (byte_none s.causes w.most));
  causes_are = w.causes;
  lowest_is = w.lowest;
  many_are = w.held;
}

of_outcome : (o : Outcome) → Shows o.answer o.desk.state → OfOutcome o
of_outcome o = valve_is o.answer o.desk.state

begins : (card : Card) (o : Outcome) → Begins card o → OfOutcome o
begins card o b = of_outcome o (rw (b.desk, b.answer) none_shows)

-- ---- the answers of an exercise
module _ (file : List ℕ) (card : ℕ) (buffer left : List ℕ) (e : Answered file card buffer left) where
  byte_is : (i j : ℕ) → i < tick_count file → j < 8
      → get_or left (8 * i + j) 0 ≡ get_or (answer_bytes (after (card_in file (card - 1)) (drive file) (i + 1)).answer) j 0
  byte_is i j h l =
      let all = answers_length (card_in file (card - 1)) (drive file) (tick_count file) in
      ap (λ (x : List ℕ). get_or x (8 * i + j) 0) e
      ∙ get_or-append (answers (card_in file (card - 1)) (drive file) (tick_count file)) (drop (8 * tick_count file) buffer) 0 (8 * i + j) (omega arith)
      ∙ answers_byte (card_in file (card - 1)) (drive file) (tick_count file) i j h l

  each : OfEach file card left
  each i h =
      let w = valve_is _ _ (after_shows (card_in file (card - 1)) (drive file) (i + 1)) in
      rw (byte_is i 5 h (omega arith), byte_is i 6 h (omega arith), byte_is i 7 h (omega arith)) w

pub valve : Valve functions
valve = record {
  opening = λ card o f z. begins card o ((demand2.opening card o f).1 z);
  tick = λ d x J o K f z. let g = ((demand2.tick d x J o K f).1 z).2 in of_outcome o (rw (g.desk, g.answer) (advance_shows _ _ _));
  step_back = λ d k J o K f z. let g = ((demand2.step_back d k J o K f).1 z).1 in of_outcome o (rw (g.desk, g.answer) (after_shows _ _ _));
  restart = λ d o f z. begins d.card o ((demand2.restart d o f).1 z);
  exercise = λ file card B x g C f z. each file card B C ((demand2.exercise file card B x g C f).1 z).3;
  host = λ file card B x g C f z. each file card B C ((demand2.host file card B x g C f).1 z).4;
}

pub valve_exported : Valve exported
valve_exported = rw exported_same valve
