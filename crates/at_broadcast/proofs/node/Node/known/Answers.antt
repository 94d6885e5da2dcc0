use Rattle.std.proofs.Common.{subst}
use Rattle.at_broadcast.proofs.Prelude.{IsNode}
use Rattle.at_broadcast.proofs.TwoNodes.{IsFinal-IsNode, KeepsUp-IsNode, SharesBalances-IsNode, SharesPrefixes-IsNode}
use Rattle.at_broadcast.proofs.node.Node.known.Goals as goal

pub returns-clause-keeps_up : goal.returns-clause-keeps_up
returns-clause-keeps_up c = KeepsUp-IsNode c.args.self.now (subst IsNode c.self.view_is c.self.invariant)

pub returns-clause-is_final : goal.returns-clause-is_final
returns-clause-is_final c = IsFinal-IsNode c.args.self.now (subst IsNode c.self.view_is c.self.invariant)

pub returns-clause-prefixes : goal.returns-clause-prefixes
returns-clause-prefixes c = SharesPrefixes-IsNode c.args.self.now (subst IsNode c.self.view_is c.self.invariant)

pub returns-clause-balances : goal.returns-clause-balances
returns-clause-balances c = SharesBalances-IsNode c.args.self.now (subst IsNode c.self.view_is c.self.invariant)
