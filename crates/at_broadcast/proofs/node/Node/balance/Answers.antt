use Rattle.std.proofs.Common.{pos, get_or, ap, subst, ◌∙◌}
use Rattle.at_broadcast.proofs.Prelude.{IsNode, NodeState}
use Rattle.at_broadcast.proofs.NodeLaws.{ShowsBalances-IsNode}
use Rattle.at_broadcast.proofs.node.Node.balance.Goals as goal

pub returns-clause-balance : goal.returns-clause-balance
returns-clause-balance c =
    let node : IsNode c.args.self.now = subst IsNode c.self.view_is c.self.invariant in
    ap pos (c.balance.ensures ∙ ap (λ (s : NodeState). get_or s.balances c.args.account 0) c.self.view_is)
    ∙ ShowsBalances-IsNode c.args.self.now node c.args.account c.requires
