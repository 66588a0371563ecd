-- `answer_all` writes the answers of the runs' ticks, each by the law of one answer more, proofs/Buffer.antt.
use Rattle.std.proofs.Common.{ℕ, ◌+◌, ◌*◌, ◌≤◌, ◌≡◌, List, length, refl, sym, ap, ap₂, ◌∙◌, arith}
use Rattle.layout.specs.Layout.{written}
use Rattle.layout.proofs.Written.{written-nil, length-written}
use Rattle.card.specs.declared.Card.{Card}
use Rattle.record.specs.declared.Record.{Record}
use Rattle.state.specs.declared.State.{State}
use Rattle.rules.specs.declared.AfterTick.{AfterTick}
use Rattle.rules.specs.Tick.{advance}
use Rattle.rules.specs.After.{after}
use Rattle.rules.specs.Answer.{answer_width, answer_bytes}
use Rattle.rules.proofs.After.{after_next}
use Rattle.file.specs.Runs.{ticks_to}
use Rattle.file.specs.Read.{drive}
use Rattle.file.proofs.Runs.{run_driven}
use Rattle.exercise.specs.Answers.{answers}
use Rattle.exercise.proofs.Buffer.{one_more}
use Rattle.exercise.proofs.answer_all.Goals as goal

-- one tick more
again : (card : Card) (H : ℕ → Record) (i : ℕ) (state : State) (reading : Record) (next : AfterTick)
    → state ≡ (after card H i).state → reading ≡ H i → next ≡ advance card state reading → next ≡ after card H (i + 1)
again card H i state reading next p q n = n ∙ ap₂ (advance card) p q ∙ sym (after_next card H i)

pub loop-j-init : goal.loop-j-init
unfolding after answers ticks_to
loop-j-init c =
    record {
      ticks = refl;
      reached = c.fresh_state.ensures;
      ranges = c.fresh_state.result.in_range;
      as_long = refl;
      so_far = sym (written-nil _ 0);
    }

pub overflow_add-end : goal.overflow_add-end
overflow_add-end c =
    let run = run_driven _ _ _ _ _ _ c.args.drives.no_run_refused c.runs-j-end.ensures c.loop-j-test.true c.loop-j.invariant.ticks
    c.run-run.ensures.ticks c.run-run.ensures.record in
    omega (arith, run.most)

pub loop-i-init : goal.loop-i-init
loop-i-init c =
    let inv = c.loop-j.invariant in
    record {
      run =
          run_driven _ _ _ _ _ _ c.args.drives.no_run_refused c.runs-j-end.ensures c.loop-j-test.true inv.ticks
          c.run-run.ensures.ticks c.run-run.ensures.record;
      since = omega arith;
      reached = inv.reached;
      ranges = inv.ranges;
      as_long = inv.as_long;
      so_far = inv.so_far;
    }

pub overflow_mul-i : goal.overflow_mul-i
overflow_mul-i c = omega (arith, c.loop-i.invariant.run.most)

pub write_answer-requires : goal.write_answer-requires
write_answer-requires c = omega (arith, c.loop-i.invariant.run.within)

pub loop-i-preserved : goal.loop-i-preserved
loop-i-preserved c =
    let i = c.loop-i.i in
    let inv = c.loop-i.invariant in
    let fits : answer_width * i + answer_width ≤ length c.loop-i.buffer = omega (arith, inv.run.within) in
    let put = c.write_answer.ensures in
    let records = drive c.args.drives.exercise.file.now in
    let next = again c.args.card.it records i _ _ c.advance-tick.result inv.reached (inv.run.each i inv.since (omega arith)) c.advance-tick.ensures.0 in
    record {
      run = inv.run;
      since = omega arith;
      reached = ap (λ (x : AfterTick). x.state) next;
      ranges = c.advance-tick.ensures.1;
      as_long = ap length put ∙ length-written _ _ _ fits ∙ inv.as_long;
      so_far =
          put
          ∙ ap₂ (λ (b : List ℕ) (x : AfterTick). written b (answer_width * i) (answer_bytes x.answer)) inv.so_far next
          ∙ one_more c.args.card.it records c.args.buffer.now i (omega (arith, inv.as_long));
    }

pub loop-j-preserved : goal.loop-j-preserved
loop-j-preserved c =
    let inv = c.loop-i.invariant in
    let all : c.loop-i.i ≡ c.loop-j.from + c.run-run.result.ticks = omega arith in
    record {
      ticks = inv.run.ends;
      reached = rw (← all) inv.reached;
      ranges = inv.ranges;
      as_long = inv.as_long;
      so_far = rw (← all) inv.so_far;
    }
