use Rattle.std.proofs.Common.{get_or, ap, sym, ◌∙◌}
use Rattle.at_broadcast.proofs.Prelude.{message_of, NodeState}
use Rattle.at_broadcast.proofs.StartLaws.{none-start}
use Rattle.at_broadcast.proofs.node.Node.new.Goals as goal

pub invariant_of-result : goal.invariant_of-result
invariant_of-result c = record {
  steady = c.in_ok-progress.ensures.steady;
  done = λ p m valid.
      none-start c.args.book.now c.args.book.now.logs p (get_or c.in_ok-progress.progress.validated p 0) m
      (ap (λ (s : NodeState). message_of s.messages p (get_or c.in_ok-progress.progress.validated p 0)) (sym c.in_ok-progress.ensures.start) ∙ valid.delivered);
}
