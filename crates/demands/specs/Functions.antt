-- The calls of the paper, and of request 1, as relations: that a call may be made (`.._asks`: what it asks of its caller is there), what it may return,
-- and what every lent slice may hold afterwards. The demands are said of any such relations. proofs/Functions.antt has those of our functions and those of
-- the calls that the archive's exports hand on to, read off their contracts.
use Rattle.std.specs.Prelude.{ℕ, List}
use Rattle.card.specs.declared.Card.{Card}
use Rattle.record.specs.declared.Sample.{Sample}
use Rattle.desk.specs.declared.Desk.{Desk}
use Rattle.desk.specs.declared.Outcome.{Outcome}
use Rattle.why.specs.declared.Reasons.{Reasons}
use Rattle.file.specs.declared.Counts.{Counts}
use Rattle.file.specs.declared.Total.{Total}

pub record Functions : Type 3 where
  pub opens : Card → Outcome → Type 0
  pub opens_asks : Card → Type 2
  -- the journal as it is lent, the outcome, the journal afterwards
  pub ticks : Desk → Sample → List ℕ → Outcome → List ℕ → Type 0
  pub ticks_asks : Desk → Sample → List ℕ → Type 2
  -- the ticks to go back, the journal as it is lent, the outcome, the journal afterwards
  pub steps_back : Desk → ℕ → List ℕ → Outcome → List ℕ → Type 0
  pub steps_back_asks : Desk → ℕ → List ℕ → Type 2
  -- it is lent no journal
  pub restarts : Desk → Outcome → Type 0
  pub restarts_asks : Desk → Type 2
  -- why the valve is open: the journal as it is lent, the reasons, the journal afterwards
  pub tells : Desk → List ℕ → Reasons → List ℕ → Type 0
  pub tells_asks : Desk → List ℕ → Type 2
  -- the reader of an exercise file: the file as it is lent, what it counts, the file afterwards
  pub reads : List ℕ → Counts → List ℕ → Type 0
  pub reads_asks : List ℕ → Type 2
  -- the file, the card's number, the buffer as it is lent, what it comes to, the file and the buffer afterwards
  pub runs : List ℕ → ℕ → List ℕ → Total → List ℕ → List ℕ → Type 0
  pub runs_asks : List ℕ → ℕ → List ℕ → Type 2
  -- the exercise call of a host program in C: the same, with one number returned
  pub hosts : List ℕ → ℕ → List ℕ → ℕ → List ℕ → List ℕ → Type 0
  pub hosts_asks : List ℕ → ℕ → List ℕ → Type 2
