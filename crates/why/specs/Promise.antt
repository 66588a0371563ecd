-- What the call promises, of every desk and every journal, whatever it holds: where it gives a tick for a cause, the cause was triggered at that tick, was
-- not held just before, and has been held at every tick since; there is no other such tick; and a held cause always gets its tick.
use Rattle.std.specs.Prelude.{ℕ, ◌-◌, ◌≤◌, ◌≡◌, Bool, true, false, List}
use Rattle.card.specs.declared.Card.{Card}
use Rattle.record.specs.declared.Record.{Record}
use Rattle.causes.specs.Held.{held_in}
use Rattle.causes.specs.Cause.{Cause, NZ1, NZ2, NZ3, NZ4, NZ5, among}
use Rattle.state.specs.Mode.{step_1_mode}
use Rattle.rules.specs.Tick.{triggers_in}
use Rattle.rules.specs.After.{after}
use Rattle.journal.specs.Journal.{records}
use Rattle.desk.specs.declared.Desk.{Desk}
use Rattle.why.specs.declared.Reason.{Reason}
use Rattle.why.specs.declared.Reasons.{Reasons}
use Rattle.why.specs.Why.{no_reason, held_after}

module _ (card : Card) (H : ℕ → Record) (cause : Cause) where
  -- a tick triggers the cause, in the state that the ticks before it left
  abbrev pub triggered_at : ℕ → Bool
  triggered_at tick =
      among cause (triggers_in card (step_1_mode (after card H (tick - 1)).state (H (tick - 1))) (H (tick - 1)))

  -- of n ticks, this one began the present holding
  pub record Began (n tick : ℕ) : Type 0 where
    pub first : 1 ≤ tick
    pub last : tick ≤ n
    pub triggered : triggered_at tick ≡ true
    pub not_before : held_after card H cause (tick - 1) ≡ false
    pub ever_since : (t : ℕ) → tick ≤ t → t ≤ n → held_after card H cause t ≡ true

-- what is given for a cause
unfoldable pub given : Cause → Reasons → Reason
given NZ1 reasons = reasons.nz1
given NZ2 reasons = reasons.nz2
given NZ3 reasons = reasons.nz3
given NZ4 reasons = reasons.nz4
given NZ5 reasons = reasons.nz5

module _ (desk : Desk) (journal : List ℕ) where
  abbrev pub holds : Cause → Bool
  holds cause = among cause (held_in desk.state.causes)

  pub record Right (cause : Cause) (reason : Reason) : Type 0 where
    pub began : Began desk.card (records journal) cause desk.n reason.tick
    pub no_other : (tick : ℕ) → Began desk.card (records journal) cause desk.n tick → tick ≡ reason.tick
    pub reading : reason.reading ≡ records journal (reason.tick - 1)

  pub record Promise (reasons : Reasons) : Type 0 where
    pub right : (cause : Cause) → ((given cause reasons).tick ≡ 0 → ⊥) → Right cause (given cause reasons)
    pub always : reasons.refusal ≡ 0 → (cause : Cause) → holds cause ≡ true → (given cause reasons).tick ≡ 0 → ⊥
    pub not_held : (cause : Cause) → holds cause ≡ false → given cause reasons ≡ no_reason
    pub refused : (reasons.refusal ≡ 0 → ⊥) → (cause : Cause) → given cause reasons ≡ no_reason
