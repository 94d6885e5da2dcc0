use Rattle.at_machines.proofs.Prelude.{IsPrefix-trans}
use Rattle.at_machines.proofs.CollectingLaws.{LoadsLength-LearnsOverview}
use Rattle.at_machines.proofs.collecting.load_after.Goals as goal

pub returns-clause-told : goal.returns-clause-told
returns-clause-told c =
    LoadsLength-LearnsOverview c.args.board.now.book c.args.seat.now.knows c.learn_overview.new.seat.knows c.load_length.new.seat.knows c.args.overview.now.seen
    c.args.process c.load_length.result c.learn_overview.ensures.learned c.load_length.ensures.told

pub returns-clause-more : goal.returns-clause-more
returns-clause-more c =
    IsPrefix-trans c.args.overview.now.seen c.learn_overview.new.seat.knows.seen c.load_length.new.seat.knows.seen c.learn_overview.ensures.learned.told
    c.load_length.ensures.told.more
