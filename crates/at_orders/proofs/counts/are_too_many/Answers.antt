use Rattle.std.proofs.Common.{◌≡◌, ◌<◌, ap, arith}
use Rattle.at_orders.proofs.Prelude.{BookTerms}
use Rattle.at_orders.proofs.CountsApart.{counts-many, counts-none, counts-step}
use Rattle.at_orders.proofs.counts.are_too_many.Goals as goal

pub loop-process-init : goal.loop-process-init
loop-process-init c = record { counted = counts-none c.args.ground.now c.book.ensures.known; few = omega arith }

pub returns-then-counts-gt-STAGES_MAX : goal.returns-then-counts-gt-STAGES_MAX
returns-then-counts-gt-STAGES_MAX c is =
    let g = c.args.ground.now in
    let book = ap (λ (b : BookTerms). b.processes) c.book.ensures.book in
    let less = c.loop-process-test.true in
    counts-many g.book g.files _ _ 1048576 (counts-step g c.loop-process.process c.loop-process.counts c.file.result.now c.book.ensures.known (omega arith) c.file.ensures.calls c.loop-process.invariant.counted)
    c.if-counts-gt-STAGES_MAX.true

pub loop-process-preserved : goal.loop-process-preserved
loop-process-preserved c =
    let g = c.args.ground.now in
    let book = ap (λ (b : BookTerms). b.processes) c.book.ensures.book in
    let less = c.loop-process-test.true in
    record {
      counted = counts-step g c.loop-process.process c.loop-process.counts c.file.result.now c.book.ensures.known (omega arith) c.file.ensures.calls c.loop-process.invariant.counted;
      few = c.if-counts-gt-STAGES_MAX.false;
    }
