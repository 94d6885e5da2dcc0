use Rattle.std.proofs.Common.{◌≡◌, ◌∙◌, ◌+◌, ◌++◌, ◌∷◌, [], replicate, sym}
use Rattle.at_commands.proofs.Prelude.{replicate_next, All-push, singles_of, IsNode, NodeState, starting_state}
use Rattle.at_commands.proofs.nodes.new_nodes.Goals as goal

pub loop-process-preserved : goal.loop-process-preserved
loop-process-preserved c =
    let before = c.loop-process.invariant in
    let start : NodeState = starting_state (singles_of c.args.book.now) in
    let n = c.loop-process._process in
    let one : c.loop-process.nodes.items ++ c.in_ok-node.node ∷ [] ≡ replicate (n + 1) start =
    rw (before.nodes, c.in_ok-node.ensures, c.in_ok-logs.ensures) (sym (replicate_next n start)) in
    record {
      nodes = c.in_ok-push.ensures.items ∙ one;
      steady = rw c.in_ok-push.ensures.items (All-push IsNode c.loop-process.nodes.items c.in_ok-node.node before.steady c.known.ensures.node);
    }
