use Rattle.std.proofs.Common.{arith}
use Rattle.at_object.proofs.Prelude.{longer}
use Rattle.at_object.proofs.Laws.Learning.{IsOfOnePass-learned, Stands-learned, sent_by-learned}
use Rattle.at_object.proofs.notes.learn_overview.Goals as goal

pub returns-clause-pass : goal.returns-clause-pass
returns-clause-pass c =
    let told = c.learn_overview.ensures in
    let before = c.args.seat.now in
    IsOfOnePass-learned before c.learn_overview.new.seat c.args.rest.now (longer before.knows.seen c.args.overview.now.seen) before.knows.requests
    before.knows.decisions c.requires.pass c.known.ensures.seat told.learned.same told.learned.more told.seat told.board
    (omega (arith, told.steps)) (omega (arith, told.exchanges))

pub returns-clause-stands : goal.returns-clause-stands
returns-clause-stands c =
    let told = c.learn_overview.ensures in
    let before = c.args.seat.now in
    Stands-learned before c.learn_overview.new.seat c.args.rest.now (longer before.knows.seen c.args.overview.now.seen) before.knows.requests
    before.knows.decisions c.requires.pass c.known.ensures.seat told.learned.same told.learned.more told.seat

pub returns-clause-sent : goal.returns-clause-sent
returns-clause-sent c =
    let told = c.learn_overview.ensures in
    let before = c.args.seat.now in
    sent_by-learned before c.learn_overview.new.seat c.args.rest.now (longer before.knows.seen c.args.overview.now.seen) before.knows.requests
    before.knows.decisions c.requires.pass c.known.ensures.seat told.learned.same told.learned.more told.seat
