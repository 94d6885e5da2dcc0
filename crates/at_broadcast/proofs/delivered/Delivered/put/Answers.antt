use Rattle.std.proofs.Common.{◌∙◌, Some, ap, set}
use Rattle.at_broadcast.proofs.Prelude.{Message, MessageList}
use Rattle.at_broadcast.proofs.FilledLaws.{filled-set}
use Rattle.at_broadcast.proofs.delivered.Delivered.put.Goals as goal

pub returns-clause-ok : goal.returns-clause-ok
returns-clause-ok c =
    filled-set c.fill.new.messages.items c.args.number (Some c.copy.result) c.in_ok-fill.ensures.place
    ∙ (ap (λ (l : MessageList). set l c.args.number (Some c.copy.result)) (c.fill.ensures.same ∙ c.self.view_is)
    ∙ ap (λ (m : Message). set c.args.self.now c.args.number (Some m)) c.copy.ensures)
