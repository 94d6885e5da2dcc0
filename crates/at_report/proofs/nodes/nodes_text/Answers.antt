use Rattle.at_report.proofs.Prelude.{common_steps}
use Rattle.std.proofs.Common.{◌<◌, ◌∙◌, [], length, refl, sym, arith}
use Rattle.at_report.proofs.NodeTexts.{nodes_from-none, nodes_from-take_more}
use Rattle.at_report.proofs.nodes.nodes_text.Goals as goal

pub loop-node-init : goal.loop-node-init
loop-node-init c = record { count = refl; text = c.new-out.ensures.items ∙ sym nodes_from-none }

pub loop-node-preserved : goal.loop-node-preserved
loop-node-preserved c =
    let count = c.loop-node.invariant.count in
    let within : c.loop-node.node-index < length c.args.nodes.now = omega arith in
    record {
      count = omega arith;
      text =
          c.in_ok-push_node.ensures
          ∙ rw (c.loop-node.invariant.text, count) (nodes_from-take_more [] c.args.nodes.now c.loop-node.node-index c.node-item.result within c.node-item.is);
    }

pub returns : goal.returns
returns c = grind (arith, common_steps)
