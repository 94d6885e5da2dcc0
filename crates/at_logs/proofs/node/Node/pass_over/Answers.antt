use Rattle.std.proofs.Common.{◌≡◌, ◌<◌, set, ap, sym, subst, arith}
use Rattle.at_logs.proofs.Prelude.{get_or_read, IsHistoryOf, IsRecord, NodeTerms, Tail, no_tail, shown, tail_of}
use Rattle.at_logs.proofs.HistoryLaws.{IsHistoryOf-passed, IsRecord-passed, passed_tail}
use Rattle.at_logs.proofs.node.Node.pass_over.Goals as goal

pub invariant_of-self : goal.invariant_of-self
invariant_of-self c =
    let n : NodeTerms = record { book = c.self.inside.book; hash = c.self.inside.hash; core = c.self.inside.core; tails = c.self.inside.tails.items } in
    let known : c.args.log < n.core.book.logs = omega (arith, c.requires.log_in, ap (λ (n : NodeTerms). n.core.book.logs) c.self.view_is) in
    let tail : c.index_mut-tail.result.now ≡ tail_of (shown n) c.args.log =
    get_or_read n.tails c.args.log c.index_mut-tail.result.now (omega (arith, c.self.invariant.sized, known)) c.index_mut-tail.ensures.value (no_tail 0) in
    subst (λ (t : Tail). IsRecord (record n { tails = set n.tails c.args.log (passed_tail t c.hash_of-tail.result) })) (sym tail)
    (IsRecord-passed n c.args.log c.hash_of-tail.result known c.self.invariant)

pub returns-clause-history : goal.returns-clause-history
returns-clause-history c = λ messages history.
    let n : NodeTerms = record { book = c.self.inside.book; hash = c.self.inside.hash; core = c.self.inside.core; tails = c.self.inside.tails.items } in
    let known : c.args.log < n.core.book.logs = omega (arith, c.requires.log_in, ap (λ (n : NodeTerms). n.core.book.logs) c.self.view_is) in
    let tail : c.index_mut-tail.result.now ≡ tail_of (shown n) c.args.log =
    get_or_read n.tails c.args.log c.index_mut-tail.result.now (omega (arith, c.self.invariant.sized, known)) c.index_mut-tail.ensures.value (no_tail 0) in
    subst (λ (t : Tail). IsHistoryOf messages (record n { tails = set n.tails c.args.log (passed_tail t c.hash_of-tail.result) })) (sym tail)
    (IsHistoryOf-passed n c.args.log c.hash_of-tail.result messages known (subst (IsHistoryOf messages) (sym c.self.view_is) history))
