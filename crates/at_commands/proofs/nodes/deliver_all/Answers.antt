use Rattle.std.proofs.Common.{◌∙◌, ◌<◌, get_or, length, take, sym, subst, arith}
use Rattle.at_commands.proofs.Prelude.{length-set, Delivery, length-contents_of, loaded_shown, IsNodeOf}
use Rattle.at_commands.proofs.NodesGiven.{AreNodesOf-next, node_within}
use Rattle.at_commands.proofs.nodes.deliver_all.Goals as goal

pub loop-delivery-preserved : goal.loop-delivery-preserved
loop-delivery-preserved c =
    let l = loaded_shown c.args.sent.now in
    let i = c.loop-delivery.delivery-index in
    let nodes = c.loop-delivery.nodes.items in
    let e : Delivery = record { node = 0; sender = 0; number = 0 } in
    let d : Delivery = get_or c.args.deliveries.now i e in
    let inside : i < length c.args.deliveries.now = omega arith in
    let is = c.requires.deliveries i e inside in
    let within : d.node < length nodes =
    omega (arith, node_within l d is, c.requires.count, length-contents_of c.args.sent.now.files.items, c.loop-delivery.invariant.each) in
    let before : IsNodeOf l (take i c.args.deliveries.now) d.node c.index_mut.result.now =
    subst (IsNodeOf l (take i c.args.deliveries.now) d.node) (sym c.index_mut.ensures.value) (c.loop-delivery.invariant.nodes d.node c.index_mut.result.now within) in
    record {
      each = length-set nodes d.node c.deliver_one.new.node ∙ c.loop-delivery.invariant.each;
      nodes = AreNodesOf-next l c.args.deliveries.now i e nodes c.deliver_one.new.node inside within c.loop-delivery.invariant.nodes
          (c.in_ok-deliver_one.ensures (take i c.args.deliveries.now) before);
    }
