use Rattle.std.proofs.Common.{IsSome, None, ap, set, sym, subst, ◌∙◌, arith}
use Rattle.at_broadcast.proofs.Prelude.{MessageList, message_at}
use Rattle.at_broadcast.proofs.FilledLaws.{filled-set, message_at-filled, within-there}
use Rattle.at_broadcast.proofs.delivered.Delivered.remove.Goals as goal

pub index_mut-requires : goal.index_mut-requires
index_mut-requires c =
    let within = within-there c.self.inside.list.items c.args.number (subst IsSome (message_at-filled c.self.inside.list.items c.args.number)
    (subst (λ (l : MessageList). IsSome (message_at l c.args.number)) (sym c.self.view_is) c.requires)) in
    omega (arith, within)

pub returns : goal.returns
returns c =
    filled-set c.self.inside.list.items c.args.number None
    (within-there c.self.inside.list.items c.args.number (subst IsSome (message_at-filled c.self.inside.list.items c.args.number)
    (subst (λ (l : MessageList). IsSome (message_at l c.args.number)) (sym c.self.view_is) c.requires)))
    ∙ ap (λ (l : MessageList). set l c.args.number None) c.self.view_is
