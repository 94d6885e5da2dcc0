use Rattle.std.proofs.Common.{◌≡◌, replicate, All}
use Rattle.at_commands.proofs.Prelude.{singles_of, IsNode, starting_state}
use Rattle.at_commands.proofs.nodes.new_nodes.Given as goal

abbrev pub invariant-loop-process : goal.invariant-loop-process
invariant-loop-process l = record {
  nodes : l.nodes.items ≡ replicate l._process (starting_state (singles_of l.book));
  steady : All IsNode l.nodes.items;
}
