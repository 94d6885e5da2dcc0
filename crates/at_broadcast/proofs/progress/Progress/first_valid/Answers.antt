use Rattle.std.proofs.Common.{get_or, subst, ap, arith}
use Rattle.at_broadcast.proofs.Prelude.{IsSteady, NodeState}
use Rattle.at_broadcast.proofs.ProgressLaws.{delivered-process}
use Rattle.at_broadcast.proofs.StartLaws.{IsSteady-IsProgress}
use Rattle.at_broadcast.proofs.progress.Progress.first_valid.Goals as goal

pub returns-in-Some-clause-steady : goal.returns-in-Some-clause-steady
returns-in-Some-clause-steady c = subst IsSteady c.self.view_is (IsSteady-IsProgress c.self.inside.book c.self.inside.validated c.self.inside.senders.items c.self.inside.balances.items c.self.invariant)

pub returns-clause-steady : goal.returns-clause-steady
returns-clause-steady c = subst IsSteady c.self.view_is (IsSteady-IsProgress c.self.inside.book c.self.inside.validated c.self.inside.senders.items c.self.inside.balances.items c.self.invariant)

pub returns-clause-none : goal.returns-clause-none
returns-clause-none c = λ p m valid.
    let listed = delivered-process c.args.self.now.messages p (get_or c.args.self.now.validated p 0) m valid.delivered in
    let steady : IsSteady c.args.self.now = returns-clause-steady c in
    c.loop-p.invariant p (omega (arith, listed, steady.sized, c.loop-p-test.false, c.logs-p-end.ensures, ap (λ (s : NodeState). s.book.logs) c.self.view_is)) m valid
