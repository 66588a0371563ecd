-- Our functions as the demands speak of calls, and the calls that the archive's exports hand on to. What a function asks is its `requires`, what it may
-- return is what it is proved to show (`Post` of the generated module `Reads`, its `ensures` as the check reads them off the source), and what its
-- parameters may be at exit is what their types say (`ended`). `now` is what a lent slice holds. The laws below take the contracts' equations and the
-- types' out; nothing else of the relations is used.
use Prim.Native.Nat.{ℕ}
use mathlib.Core.Path.{◌≡◌, refl, sym, ap, ap₂, ◌∙◌}
use mathlib.Core.List.{List, []}
use base.Logic.{ent, emp, id⊢}
use borrow.Fn.World.{World, Pr}
use denote.Ref.{Bor}
use denote.MutBor.{MutBor}
use denote.Triple.Clauses.{Ended, Lasts, AtExit, at_exit}
use denote.Triple.Entry.{Args, Res}
use contract.Lifetimes.{Lfts}
use lib.ListN.{length}
use Rattle.card.specs.declared.Card.{Card}
use Rattle.record.specs.declared.Sample.{Sample}
use Rattle.desk.specs.declared.Desk.{Desk}
use Rattle.desk.specs.declared.Outcome.{Outcome}
use Rattle.desk.specs.Calls.{open_outcome, tick_outcome, tick_journal, back_outcome, restart_outcome}
use Rattle.why.specs.declared.Reasons.{Reasons}
use Rattle.why.specs.Why.{why_outcome}
use Rattle.file.specs.declared.Counts.{Counts}
use Rattle.file.specs.declared.Total.{Total}
use Rattle.file.specs.Read.{read_outcome}
use Rattle.exercise.specs.Run.{exercise_outcome, exercise_buffer}
use Rattle.foldharbor_exercise.specs.Exercise.{host_number}
use Rattle.desk.proofs.Desk.open.Reads as opening
use Rattle.desk.specs.contracts.Desk.tick as tick_call
use Rattle.desk.proofs.Desk.tick.Reads as ticking
use Rattle.desk.specs.contracts.Desk.step_back as back_call
use Rattle.desk.proofs.Desk.step_back.Reads as backing
use Rattle.desk.proofs.Desk.restart.Reads as restarting
use Rattle.why.specs.contracts.why as why_call
use Rattle.why.proofs.why.Reads as telling
use Rattle.file.specs.contracts.read as read_call
use Rattle.file.proofs.read.Reads as reading
use Rattle.exercise.specs.contracts.run as run_call
use Rattle.exercise.proofs.run.Reads as running
use Rattle.foldharbor.proofs.foldharbor_open.Reads as exported_opening
use Rattle.foldharbor.specs.contracts.foldharbor_tick as exported_tick_call
use Rattle.foldharbor.proofs.foldharbor_tick.Reads as exported_ticking
use Rattle.foldharbor_back.specs.contracts.foldharbor_step_back as exported_back_call
use Rattle.foldharbor_back.proofs.foldharbor_step_back.Reads as exported_backing
use Rattle.foldharbor.proofs.foldharbor_restart.Reads as exported_restarting
use Rattle.foldharbor_why.specs.contracts.foldharbor_why as exported_why_call
use Rattle.foldharbor_why.proofs.foldharbor_why.Reads as exported_telling
use Rattle.foldharbor_exercise.specs.contracts.foldharbor_read_exercise as exported_read_call
use Rattle.foldharbor_exercise.proofs.foldharbor_read_exercise.Reads as exported_reading
use Rattle.foldharbor_exercise.specs.contracts.foldharbor_run_exercise as host_call
use Rattle.foldharbor_exercise.proofs.foldharbor_run_exercise.Reads as hosting
use Rattle.demands.specs.Functions.{Functions}
use Rattle.demands.specs.Demand1.{Returning}

-- a slice that is lent to be read, and what it holds; one that is lent to be written
abbrev Lent : List ℕ → Type 0
Lent bytes = (slice : Bor (List ℕ)) × (slice.now ≡ bytes)

abbrev LentToWrite : List ℕ → Type 0
LentToWrite bytes = (slice : MutBor (List ℕ)) × (slice.now ≡ bytes)

-- what a call asks of its caller is there, from nothing
abbrev FromNothing : ((w : World) → Pr w) → Type 2
FromNothing requires = (w : World) → ent w.𝓤 (emp w.𝓤) (requires w)

-- a function's `Post`: what its contract says of arguments, a result, and the arguments at exit
abbrev Said : Ended → Type 1
Said T = (κs : Lfts T.signature.lifetimes) → Args T.signature κs → Res T.signature κs → AtExit T κs → Type 0

-- what a call with lent slices may return, and what they may hold at exit
record Returned (T : Ended) (Post : Said T) (κs : Lfts T.signature.lifetimes) (args : Args T.signature κs) (x : Res T.signature κs)
    (Left : AtExit T κs → Type 0) : Type 0 where
  last : Lasts T κs args
  post : Post κs args x (at_exit T κs args last)
  leaves : Left (at_exit T κs args last)

-- `exit.0` is the first parameter at exit, the file; `exit.1.0` the second, a journal; `exit.1.1.0` the third, the journal or the buffer
pub functions : Functions
functions =
    record {
      opens = λ card out. (κs : Lfts 0) × (exit : _) × opening.Post κs (card, tt) out exit;
      opens_asks = λ card. (κs : Lfts 0) → FromNothing (opening.requires κs (card, tt) tt);
      ticks = λ desk sample journal out left.
          (κs : Lfts 1) × (j : LentToWrite journal)
          × Returned tick_call.ended ticking.Post κs (desk, (sample, (j.0, tt))) out (λ exit. exit.1.1.0.now ≡ left);
      ticks_asks = λ desk sample journal. (κs : Lfts 1) (j : LentToWrite journal) → FromNothing (ticking.requires κs (desk, (sample, (j.0, tt))) tt);
      steps_back = λ desk k journal out left.
          (κs : Lfts 1) × (j : Lent journal)
          × Returned back_call.ended backing.Post κs (desk, (k, (j.0, tt))) out (λ exit. exit.1.1.0.now ≡ left);
      steps_back_asks = λ desk k journal. (κs : Lfts 1) (j : Lent journal) → FromNothing (backing.requires κs (desk, (k, (j.0, tt))) tt);
      restarts = λ desk out. (κs : Lfts 0) × (exit : _) × restarting.Post κs (desk, tt) out exit;
      restarts_asks = λ desk. (κs : Lfts 0) → FromNothing (restarting.requires κs (desk, tt) tt);
      tells = λ desk journal reasons left.
          (κs : Lfts 1) × (j : Lent journal) × Returned why_call.ended telling.Post κs (desk, (j.0, tt)) reasons (λ exit. exit.1.0.now ≡ left);
      tells_asks = λ desk journal. (κs : Lfts 1) (j : Lent journal) → FromNothing (telling.requires κs (desk, (j.0, tt)) tt);
      reads = λ file counts file_left.
          (κs : Lfts 1) × (f : Lent file) × Returned read_call.ended reading.Post κs (f.0, tt) counts (λ exit. exit.0.now ≡ file_left);
      reads_asks = λ file. (κs : Lfts 1) (f : Lent file) → FromNothing (reading.requires κs (f.0, tt) tt);
      runs = λ file card buffer total file_left left.
          (κs : Lfts 2) × (f : Lent file) × (b : LentToWrite buffer)
          × Returned run_call.ended running.Post κs (f.0, (card, (b.0, tt))) total
          (λ exit. (exit.0.now ≡ file_left) × (exit.1.1.0.now ≡ left));
      runs_asks = λ file card buffer.
          (κs : Lfts 2) (f : Lent file) (b : LentToWrite buffer) → FromNothing (running.requires κs (f.0, (card, (b.0, tt))) tt);
      hosts = λ file card buffer number file_left left.
          (κs : Lfts 2) × (f : Lent file) × (b : LentToWrite buffer)
          × Returned host_call.ended hosting.Post κs (f.0, (card, (b.0, tt))) number
          (λ exit. (exit.0.now ≡ file_left) × (exit.1.1.0.now ≡ left));
      hosts_asks = λ file card buffer.
          (κs : Lfts 2) (f : Lent file) (b : LentToWrite buffer) → FromNothing (hosting.requires κs (f.0, (card, (b.0, tt))) tt);
    }

-- the calls that exports hand on to; `exercise::run` itself is not exported, so `runs` is the function's and `hosts` the archive's call
pub exported : Functions
exported =
    record {
      opens = λ card out. (κs : Lfts 0) × (exit : _) × exported_opening.Post κs (card, tt) out exit;
      opens_asks = λ card. (κs : Lfts 0) → FromNothing (exported_opening.requires κs (card, tt) tt);
      ticks = λ desk sample journal out left.
          (κs : Lfts 1) × (j : LentToWrite journal)
          × Returned exported_tick_call.ended exported_ticking.Post κs (desk, (sample, (j.0, tt))) out (λ exit. exit.1.1.0.now ≡ left);
      ticks_asks = λ desk sample journal.
          (κs : Lfts 1) (j : LentToWrite journal) → FromNothing (exported_ticking.requires κs (desk, (sample, (j.0, tt))) tt);
      steps_back = λ desk k journal out left.
          (κs : Lfts 1) × (j : Lent journal)
          × Returned exported_back_call.ended exported_backing.Post κs (desk, (k, (j.0, tt))) out (λ exit. exit.1.1.0.now ≡ left);
      steps_back_asks = λ desk k journal. (κs : Lfts 1) (j : Lent journal) → FromNothing (exported_backing.requires κs (desk, (k, (j.0, tt))) tt);
      restarts = λ desk out. (κs : Lfts 0) × (exit : _) × exported_restarting.Post κs (desk, tt) out exit;
      restarts_asks = λ desk. (κs : Lfts 0) → FromNothing (exported_restarting.requires κs (desk, tt) tt);
      tells = λ desk journal reasons left.
          (κs : Lfts 1) × (j : Lent journal)
          × Returned exported_why_call.ended exported_telling.Post κs (desk, (j.0, tt)) reasons (λ exit. exit.1.0.now ≡ left);
      tells_asks = λ desk journal. (κs : Lfts 1) (j : Lent journal) → FromNothing (exported_telling.requires κs (desk, (j.0, tt)) tt);
      reads = λ file counts file_left.
          (κs : Lfts 1) × (f : Lent file)
          × Returned exported_read_call.ended exported_reading.Post κs (f.0, tt) counts (λ exit. exit.0.now ≡ file_left);
      reads_asks = λ file. (κs : Lfts 1) (f : Lent file) → FromNothing (exported_reading.requires κs (f.0, tt) tt);
      runs = functions.runs;
      runs_asks = functions.runs_asks;
      hosts = functions.hosts;
      hosts_asks = functions.hosts_asks;
    }

-- their contracts are those of the functions, to the letter: call by call, so that a difference is told, and all in all
same_opens : (card : Card) (out : Outcome) → exported.opens card out ≡ functions.opens card out
unfolding functions exported
same_opens card out = refl

same_ticks : (desk : Desk) (sample : Sample) (journal : List ℕ) (out : Outcome) (left : List ℕ)
    → exported.ticks desk sample journal out left ≡ functions.ticks desk sample journal out left
unfolding functions exported
same_ticks desk sample journal out left = refl

same_steps_back : (desk : Desk) (k : ℕ) (journal : List ℕ) (out : Outcome) (left : List ℕ)
    → exported.steps_back desk k journal out left ≡ functions.steps_back desk k journal out left
unfolding functions exported
same_steps_back desk k journal out left = refl

same_restarts : (desk : Desk) (out : Outcome) → exported.restarts desk out ≡ functions.restarts desk out
unfolding functions exported
same_restarts desk out = refl

same_tells : (desk : Desk) (journal : List ℕ) (reasons : Reasons) (left : List ℕ)
    → exported.tells desk journal reasons left ≡ functions.tells desk journal reasons left
unfolding functions exported
same_tells desk journal reasons left = refl

same_reads : (file : List ℕ) (counts : Counts) (file_left : List ℕ) → exported.reads file counts file_left ≡ functions.reads file counts file_left
unfolding functions exported
same_reads file counts file_left = refl

pub exported_same : exported ≡ functions
unfolding functions exported
exported_same = refl

-- ---- the equations of the contracts, and of the slices that are lent to be read
pub opens_is : (card : Card) (o : Outcome) → functions.opens card o → o ≡ open_outcome card
unfolding functions
opens_is card o f = f.2

module _ (d : Desk) (x : Sample) (journal : List ℕ) (o : Outcome) (left : List ℕ) where
  pub ticks_is : functions.ticks d x journal o left → (o ≡ tick_outcome d x journal) × (left ≡ tick_journal d x journal)
  unfolding functions
  ticks_is f = (f.2.post.0 ∙ ap (tick_outcome d x) f.1.1, sym f.2.leaves ∙ f.2.post.1 ∙ ap (tick_journal d x) f.1.1)

module _ (d : Desk) (k : ℕ) (journal : List ℕ) (o : Outcome) (left : List ℕ) (f : functions.steps_back d k journal o left) where
  pub steps_back_is : o ≡ back_outcome d k journal
  unfolding functions
  steps_back_is = f.2.post ∙ ap (back_outcome d k) f.1.1

  pub steps_back_reads : left ≡ journal
  unfolding functions
  steps_back_reads = sym f.2.leaves ∙ f.1.1

pub restarts_is : (d : Desk) (o : Outcome) → functions.restarts d o → o ≡ restart_outcome d
unfolding functions
restarts_is d o f = f.2

pub tells_is : (d : Desk) (journal : List ℕ) (x : Reasons) (left : List ℕ) → functions.tells d journal x left
    → (x ≡ why_outcome d journal) × (left ≡ journal)
unfolding functions
tells_is d journal x left f = (f.2.post ∙ ap (why_outcome d) f.1.1, sym f.2.leaves ∙ f.1.1)

pub reads_is : (file : List ℕ) (c : Counts) (file_left : List ℕ) → functions.reads file c file_left → (c ≡ read_outcome file) × (file_left ≡ file)
unfolding functions
reads_is file c file_left f = (f.2.post ∙ ap read_outcome f.1.1, sym f.2.leaves ∙ f.1.1)

module _ (file : List ℕ) (card : ℕ) (buffer file_left left : List ℕ) where
  pub runs_is : (x : Total) → functions.runs file card buffer x file_left left
      → (x ≡ exercise_outcome file card (length buffer)) × (file_left ≡ file) × (left ≡ exercise_buffer file card buffer)
  unfolding functions
  runs_is x f = (
    f.3.post.0 ∙ ap₂ (λ (a b : List ℕ). exercise_outcome a card (length b)) f.1.1 f.2.1,
    sym f.3.leaves.0 ∙ f.1.1,
    sym f.3.leaves.1 ∙ f.3.post.1 ∙ ap₂ (λ (a b : List ℕ). exercise_buffer a card b) f.1.1 f.2.1,
  )

  pub hosts_is : (x : ℕ) → functions.hosts file card buffer x file_left left
      → (x ≡ host_number (exercise_outcome file card (length buffer))) × (file_left ≡ file) × (left ≡ exercise_buffer file card buffer)
  unfolding functions
  hosts_is x f = (
    f.3.post.0 ∙ ap₂ (λ (a b : List ℕ). host_number (exercise_outcome a card (length b))) f.1.1 f.2.1,
    sym f.3.leaves.0 ∙ f.1.1,
    sym f.3.leaves.1 ∙ f.3.post.1 ∙ ap₂ (λ (a b : List ℕ). exercise_buffer a card b) f.1.1 f.2.1,
  )

-- ---- nothing is asked, and something meets them, whatever is handed over
-- some slice with these bytes
abbrev lent : (bytes : List ℕ) → Lent bytes
lent bytes = (record { ref_ptr = (0, 0); now = bytes }, refl)

abbrev lent_to_write : (bytes : List ℕ) → LentToWrite bytes
lent_to_write bytes = (record { ref_ptr = (0, 0); ghost_name = 0; now = bytes }, refl)

from_nothing : (w : World) → ent w.𝓤 (emp w.𝓤) (emp w.𝓤)
from_nothing w = id⊢ w.𝓤 (emp w.𝓤)

pub returning : Returning functions
unfolding functions
returning = record {
  opening = λ card. (λ κs. from_nothing, open_outcome card, (tt, (card, tt), refl));
  tick = λ d x J.
      let K = tick_journal d x J in (
        λ κs j. from_nothing,
        tick_outcome d x J,
        K,
        (([], tt), lent_to_write J, record { last = (tt, (tt, (K, tt))); post = (refl, refl); leaves = refl }),
      );
  step_back = λ d k J. (λ κs j. from_nothing, back_outcome d k J, J, (([], tt), lent J, record { last = (tt, (tt, (tt, tt))); post = refl; leaves = refl }));
  restart = λ d. (λ κs. from_nothing, restart_outcome d, (tt, (d, tt), refl));
  why = λ d J. (λ κs j. from_nothing, why_outcome d J, J, (([], tt), lent J, record { last = (tt, (tt, tt)); post = refl; leaves = refl }));
  reader = λ file. (λ κs f. from_nothing, read_outcome file, file, (([], tt), lent file, record { last = (tt, tt); post = refl; leaves = refl }));
  exercise = λ file card B.
      let C = exercise_buffer file card B in (
        λ κs f b. from_nothing,
        exercise_outcome file card (length B),
        file,
        C,
        (([], ([], tt)), lent file, lent_to_write B, record { last = (tt, (tt, (C, tt))); post = (refl, refl); leaves = (refl, refl) }),
      );
  host = λ file card B.
      let C = exercise_buffer file card B in (
        λ κs f b. from_nothing,
        host_number (exercise_outcome file card (length B)),
        file,
        C,
        (([], ([], tt)), lent file, lent_to_write B, record { last = (tt, (tt, (C, tt))); post = (refl, refl); leaves = (refl, refl) }),
      );
}
