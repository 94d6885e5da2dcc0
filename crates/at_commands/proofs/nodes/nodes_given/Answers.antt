use Rattle.at_commands.proofs.Prelude.{loaded_shown}
use Rattle.at_commands.proofs.NodesGiven.{AreNodesOf-new}
use Rattle.at_commands.proofs.nodes.nodes_given.Goals as goal

pub deliver_all-requires-clause-fresh : goal.deliver_all-requires-clause-fresh
deliver_all-requires-clause-fresh c =
    AreNodesOf-new (loaded_shown c.args.sent.now) c.in_ok-nodes.nodes.items c.in_ok-nodes.ensures.nodes c.in_ok-nodes.ensures.steady
