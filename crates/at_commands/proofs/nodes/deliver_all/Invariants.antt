use Rattle.std.proofs.Common.{◌≡◌, length, take}
use Rattle.at_commands.proofs.Prelude.{loaded_shown, AreNodesOf}
use Rattle.at_commands.proofs.nodes.deliver_all.Given as goal

abbrev pub invariant-loop-delivery : goal.invariant-loop-delivery
invariant-loop-delivery l = record {
  each : length l.nodes.items ≡ l.sent.book.processes;
  nodes : AreNodesOf (loaded_shown l.sent) (take l.delivery-index l.deliveries) l.nodes.items;
}
