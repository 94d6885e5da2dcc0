use Rattle.std.proofs.Common.{◌≡◌, take}
use Rattle.at_report.proofs.Prelude.{lines_text, nodes_from}
use Rattle.at_report.proofs.nodes.nodes_text.Given as goal

abbrev pub invariant-loop-node : goal.invariant-loop-node
invariant-loop-node l = record {
  count : l.number ≡ l.node-index;
  text : l.out.items ≡ lines_text (nodes_from 0 (take l.node-index l.nodes));
}
