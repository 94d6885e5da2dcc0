use Rattle.std.proofs.Common.{◌++◌, ◌<◌, ap, arith}
use Rattle.at_orders.proofs.Prelude.{BookTerms}
use Rattle.at_orders.proofs.Looking.{at-append, looks-fewer, looks-more, looks-none}
use Rattle.at_orders.proofs.walk.look.Goals as goal

pub loop-process-init : goal.loop-process-init
loop-process-init c stages trail at = looks-none c.args.ground.now c.args.trail.now stages c.args.stage.now _ trail (λ q call less next. absurd (omega arith))

pub turn-requires-clause-trail : goal.turn-requires-clause-trail
turn-requires-clause-trail c =
    let looks = c.loop-process.invariant c.requires.trail.0 c.requires.trail.1 c.requires.trail.2 in
    (c.requires.trail.0 ++ looks.more, looks.is)

pub loop-process-preserved : goal.loop-process-preserved
loop-process-preserved c stages trail at =
    let looks = c.loop-process.invariant stages trail at in
    looks-more c.args.ground.now c.args.trail.now c.loop-process.trail c.turn.new.trail stages c.args.stage.now c.loop-process.process trail looks
    (c.in_ok-turn.ensures (stages ++ looks.more) looks.is (at-append stages looks.more c.args.at c.args.stage.now at))

pub returns : goal.returns
returns c stages trail at =
    looks-fewer c.args.ground.now c.args.trail.now c.loop-process.trail stages c.args.stage.now (λ p. p < c.loop-process.process) (λ p. p < c.args.ground.now.book.processes)
    (λ q less. let past = c.loop-process-test.false in let book = ap (λ (b : BookTerms). b.processes) c.book.ensures.book in omega arith)
    (c.loop-process.invariant stages trail at)
