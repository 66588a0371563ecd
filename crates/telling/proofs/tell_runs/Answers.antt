-- No run takes the ticks past the most, by what holds of a file that was read; a run more is `ticks_next`.
use Rattle.std.proofs.Common.{refl, sym, ap₂, ◌∙◌, ◌+◌}
use Rattle.file.specs.Runs.{ticks_to}
use Rattle.file.proofs.Runs.{ticks_next, run_driven}
use Rattle.telling.proofs.tell_runs.Goals as goal

pub loop-j-init : goal.loop-j-init
unfolding ticks_to
loop-j-init g c = refl

pub tell_run-requires : goal.tell_run-requires
tell_run-requires g c =
    let run = c.run.ensures in
    let driven = run_driven _ _ _ _ _ _ c.args.drives.no_run_refused c.runs-j-end.ensures c.loop-j-test.true c.loop-j.invariant run.ticks run.record in
    driven.most

pub loop-j-preserved : goal.loop-j-preserved
loop-j-preserved g c =
    c.in_ok-drive.ensures ∙ ap₂ ◌+◌ c.loop-j.invariant c.run.ensures.ticks ∙ sym (ticks_next c.args.drives.exercise.file.now c.loop-j.j)
