use Rattle.std.proofs.Common.{◌∙◌, ap, sym}
use Rattle.at_broadcast.proofs.Prelude.{MessageList, message_at}
use Rattle.at_broadcast.proofs.FilledLaws.{message_at-filled}
use Rattle.at_broadcast.proofs.delivered.Delivered.get.Goals as goal

pub returns : goal.returns
returns c =
    c.message_in.ensures
    ∙ (ap (λ (l : MessageList). message_at l c.args.number) c.as_slice.ensures.value
    ∙ (sym (message_at-filled c.self.inside.list.items c.args.number) ∙ ap (λ (l : MessageList). message_at l c.args.number) c.self.view_is))
