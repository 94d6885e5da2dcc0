use Rattle.std.proofs.Common.{◌+◌, ◌++◌, subst, sym, arith, ◌∙◌}
use Rattle.at_orders.proofs.Prelude.{contents_of, IsWalking}
use Rattle.at_orders.proofs.Levels.{walking-begun, walking-ended, walking-grown, walking-many}
use Rattle.at_orders.proofs.walk.look_all.Goals as goal

pub loop-at-init : goal.loop-at-init
loop-at-init c =
    let g = c.args.ground.now in
    let walked = c.requires.walked in
    let walking : IsWalking g c.args.trail.now (contents_of c.args.done.now.replies.items) c.args.done.now.spans.items c.args.most c.looked-at.result =
    subst (IsWalking g c.args.trail.now (contents_of c.args.done.now.replies.items) c.args.done.now.spans.items c.args.most) (sym c.looked-at.ensures) (walking-begun g c.args.trail.now _ _ c.args.most walked) in
    let none = walking-grown g c.args.trail.now _ _ c.args.most c.looked-at.result 0 walking (let size = walked.trail.size in let all = walked.all in omega arith) in
    record {
      walking = walking;
      few = omega arith;
      end = sym c.begun-at-end.ensures;
    }

pub visit-requires-clause-walking : goal.visit-requires-clause-walking
visit-requires-clause-walking c = (c.args.most, c.loop-at.invariant.walking)

pub visit-requires-clause-within : goal.visit-requires-clause-within
visit-requires-clause-within c = let end = c.loop-at.invariant.end in let less = c.loop-at-test.true in omega arith

pub grown-requires : goal.grown-requires
grown-requires c =
    let walking = c.in_ok-visit.ensures.walking c.args.most c.loop-at.invariant.walking in
    (c.args.ground.now, walking.before ++ walking.next, walking.trail)

pub returns-then-grown-most-clause-many : goal.returns-then-grown-most-clause-many
returns-then-grown-most-clause-many c is =
    let walking = c.in_ok-visit.ensures.walking c.args.most c.loop-at.invariant.walking in
    let size = walking-grown c.args.ground.now c.visit.new.trail _ _ c.args.most (c.loop-at.at + 1) c.grown.result walking c.grown.ensures in
    let over = c.if-grown-most.true in
    walking-many c.args.ground.now c.visit.new.trail _ _ c.args.most (c.loop-at.at + 1) walking (omega arith)

pub loop-at-preserved : goal.loop-at-preserved
loop-at-preserved c =
    let walking = c.in_ok-visit.ensures.walking c.args.most c.loop-at.invariant.walking in
    let size = walking-grown c.args.ground.now c.visit.new.trail _ _ c.args.most (c.loop-at.at + 1) c.grown.result walking c.grown.ensures in
    record {
      walking = walking;
      few = let under = c.if-grown-most.false in omega arith;
      end = c.in_ok-visit.ensures.begun ∙ c.loop-at.invariant.end;
    }

pub returns-clause-walked : goal.returns-clause-walked
returns-clause-walked c =
    walking-ended c.args.ground.now c.loop-at.trail _ _ c.args.most c.loop-at.at c.loop-at.invariant.walking
    (let past = c.loop-at-test.false in let end = c.loop-at.invariant.end in omega arith) c.loop-at.invariant.few
