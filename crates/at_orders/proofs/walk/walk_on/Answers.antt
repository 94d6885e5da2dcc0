use Rattle.std.proofs.Common.{◌+◌, ◌-◌, ◌<◌, arith}
use Rattle.at_orders.proofs.Prelude.{contents_of}
use Rattle.at_orders.proofs.Levels.{turned-size, walked-begun, walked-few, walked-on, walked-out}
use Rattle.at_orders.proofs.Spanning.{spans-all}
use Rattle.at_orders.proofs.Walking.{answers}
use Rattle.at_orders.proofs.walk.walk_on.Goals as goal

pub loop-alloc-init : goal.loop-alloc-init
loop-alloc-init c =
    let first = c.in_ok-trail.ensures.first in
    walked-begun c.args.ground.now c.in_ok-trail.trail first.0 _ _ c.book-known.ensures.known first.1 first.2 first.3 c.in_ok-trail.ensures.looked c.in_ok-trail.ensures.begun
    c.in_ok-replies.ensures c.in_ok-spans.ensures

pub grown-left-requires : goal.grown-left-requires
grown-left-requires c =
    let walked = c.in_ok-look_all.ensures.walked in
    (c.args.ground.now, walked.stages, walked.trail)

pub turn_over-requires : goal.turn_over-requires
turn_over-requires c =
    let walked = c.in_ok-look_all.ensures.walked in
    (walked.stages, walked.trail)

pub loop-alloc-preserved : goal.loop-alloc-preserved
loop-alloc-preserved c =
    let walked = c.in_ok-look_all.ensures.walked in
    walked-on c.args.ground.now c.look_all.new.trail c.turn_over.new.self _ _ c.loop-alloc.left c.grown-left.result walked (c.in_ok-turn_over.ensures walked.stages walked.trail) c.grown-left.ensures

pub loop-alloc-smaller : goal.loop-alloc-smaller
loop-alloc-smaller c =
    let g = c.args.ground.now in
    let walked = c.in_ok-look_all.ensures.walked in
    let few = walked-few g c.look_all.new.trail _ _ c.loop-alloc.left c.grown-left.result walked c.grown-left.ensures in
    let size = turned-size g c.look_all.new.trail c.turn_over.new.self walked.stages c.grown-left.result walked.trail (c.in_ok-turn_over.ensures walked.stages walked.trail) c.grown-left.ensures in
    let some = c.loop-alloc-test.true in
    let looked = c.looked.ensures in
    let begun = c.begun.ensures in
    let falls : (c.loop-alloc.left - c.grown-left.result) + (c.turn_over.new.self.begun - c.turn_over.new.self.looked) < c.loop-alloc.left + (c.loop-alloc.trail.begun - c.loop-alloc.trail.looked) = omega arith in
    falls

pub returns-clause-answers : goal.returns-clause-answers
returns-clause-answers c =
    let walked = c.loop-alloc.invariant in
    let over = c.loop-alloc-test.false in
    let looked = c.looked.ensures in
    let begun = c.begun.ensures in
    answers c.args.ground.now walked.past (contents_of c.loop-alloc.done.replies.items)
    (walked-out c.args.ground.now c.loop-alloc.trail _ _ c.loop-alloc.left c.book-known.ensures.known walked (omega arith)) walked.heard

pub returns-clause-spans : goal.returns-clause-spans
returns-clause-spans c =
    let walked = c.loop-alloc.invariant in
    let over = c.loop-alloc-test.false in
    let looked = c.looked.ensures in
    let begun = c.begun.ensures in
    spans-all c.args.ground.now walked.past c.loop-alloc.done.spans.items c.book-known.ensures.known
    (walked-out c.args.ground.now c.loop-alloc.trail _ _ c.loop-alloc.left c.book-known.ensures.known walked (omega arith)) walked.held

pub returns-clause-size : goal.returns-clause-size
returns-clause-size c = c.loop-alloc.invariant.held.size
