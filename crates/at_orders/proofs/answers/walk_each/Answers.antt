use Rattle.std.proofs.Common.{◌≡◌, ◌+◌, List, length, sym, subst, arith}
use Rattle.at_orders.proofs.Prelude.{contents_of, AreOrdered, Part}
use Rattle.at_orders.proofs.Merging.{ordered-more}
use Rattle.at_orders.proofs.answers.walk_each.Goals as goal

pub loop-part-preserved : goal.loop-part-preserved
loop-part-preserved c =
    let b = c.args.book.now in
    subst (λ (ds : List Part). AreOrdered b (contents_of c.args.files.now) c.args.parts.now ds (c.loop-part.part + 1)) (sym c.in_ok-push.ensures)
    (ordered-more b (contents_of c.args.files.now) c.args.parts.now c.loop-part.done.items c.loop-part.part c.in_ok-walked.walked c.loop-part.invariant c.in_ok-walked.ensures.ordered)

pub returns-clause-ordered : goal.returns-clause-ordered
returns-clause-ordered c =
    let n = c.requires.processes in
    let m = c.processes-part-end.ensures in
    let end = c.loop-part.auto.part-end in
    let over = c.loop-part-test.false in
    let all : c.loop-part.part ≡ length c.args.files.now = omega arith in
    subst (AreOrdered c.args.book.now (contents_of c.args.files.now) c.args.parts.now c.loop-part.done.items) all c.loop-part.invariant
