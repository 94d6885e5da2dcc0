use Rattle.at_logs.proofs.CallLaws.{HasMade-result}
use Rattle.at_logs.proofs.node.Node.appended.Goals as goal

pub returns-clause-left : goal.returns-clause-left
returns-clause-left c =
    HasMade-result c.take.result c.args.self.now c.take.new.self c.args.draft.now c.as_slice.result.now c.as_slice.ensures.value c.requires.log_in c.take.ensures.answer c.take.ensures.left
