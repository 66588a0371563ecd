-- `runs_read` judges the runs in turn, by the laws of proofs/Runs.antt. That each run is there follows from the header.
use Rattle.std.proofs.Common.{◌+◌, refl, sym, ap, ap₂, ◌∙◌, arith}
use Rattle.refusal.specs.Number.{number_of}
use Rattle.file.specs.Runs.{ticks_to, runs_refusal}
use Rattle.file.proofs.Runs.{fault_none, fault_is, ticks_next, runs_next}
use Rattle.file.proofs.runs_read.Goals as goal

pub loop-j-init : goal.loop-j-init
unfolding ticks_to runs_refusal
loop-j-init c = record { sum = refl; most = omega arith; good = refl }

pub loop-j-preserved : goal.loop-j-preserved
unfolding number_of
loop-j-preserved c =
    let inv = c.loop-j.invariant in
    let run = c.run_in-run.ensures in
    let none = rw c.in_ok-run_fault.was at c.run_fault.ensures in
    record {
      sum = ap₂ ◌+◌ inv.sum run.0 ∙ sym (ticks_next _ _);
      most = (fault_none _ _ _ (sym none)).fits;
      good = runs_next _ _ inv.good (sym (fault_is _ _ _ _ _ inv.sum run.0 run.1) ∙ sym none);
    }

pub returns-clause-refusal : goal.returns-clause-refusal
unfolding number_of
returns-clause-refusal c = sym (ap (runs_refusal c.args.file.now) (omega arith) ∙ c.loop-j.invariant.good)
