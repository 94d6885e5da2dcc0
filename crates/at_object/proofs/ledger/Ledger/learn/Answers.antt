use Rattle.std.proofs.Common.{◌++◌, arith, subst, sym, ap, ◌∙◌}
use Rattle.at_object.proofs.Prelude.{longer, Knowledge, PassTerms, Stands, sent_by}
use Rattle.at_object.proofs.Laws.Learning.{IsOfOnePass-learned, Stands-learned, sent_by-learned}
use Rattle.at_object.proofs.ledger.Ledger.learn.Goals as goal

pub invariant_of-pass : goal.invariant_of-pass
invariant_of-pass c =
    let learned = c.learn.ensures in
    let v : Knowledge = c.pass.inside.seat.knows in
    let w : Knowledge = c.note.inside.note.knows in
    IsOfOnePass-learned c.pass.inside.seat c.learn.new.seat c.pass.inside.rest (longer v.seen w.seen) (v.requests ++ w.requests) (v.decisions ++ w.decisions)
    c.pass.invariant c.known.ensures.seat learned.learned.same learned.learned.more learned.seat learned.board (omega (arith, learned.steps)) (omega (arith, learned.exchanges))

pub returns-clause-stands : goal.returns-clause-stands
returns-clause-stands c = λ receipts stands.
    let learned = c.learn.ensures in
    let v : Knowledge = c.pass.inside.seat.knows in
    let w : Knowledge = c.note.inside.note.knows in
    Stands-learned c.pass.inside.seat c.learn.new.seat c.pass.inside.rest (longer v.seen w.seen) (v.requests ++ w.requests) (v.decisions ++ w.decisions)
    c.pass.invariant c.known.ensures.seat learned.learned.same learned.learned.more learned.seat receipts
    (subst (λ (t : PassTerms). Stands t receipts) (sym c.pass.view_is) stands)

pub returns-clause-sent : goal.returns-clause-sent
returns-clause-sent c =
    let learned = c.learn.ensures in
    let v : Knowledge = c.pass.inside.seat.knows in
    let w : Knowledge = c.note.inside.note.knows in
    sent_by-learned c.pass.inside.seat c.learn.new.seat c.pass.inside.rest (longer v.seen w.seen) (v.requests ++ w.requests) (v.decisions ++ w.decisions)
    c.pass.invariant c.known.ensures.seat learned.learned.same learned.learned.more learned.seat
    ∙ ap sent_by c.pass.view_is
