use Rattle.std.proofs.Common.{◌≡◌, ℕ, ◌+◌, ◌<◌, get_or, ap, sym, subst, arith}
use Rattle.at_logs.proofs.Prelude.{left, left-one_more_of, CompactState, IsCompact, IsHistoryOf, IsRecord, IsValid, NodeTerms, one_more_of}
use Rattle.at_logs.proofs.HistoryLaws.{IsHistoryOf-told, IsRecord-told, validated-le}
use Rattle.at_logs.proofs.node.Node.count_told.Goals as goal

-- there is a number for the next message of a log
fewer-told : (k : CompactState) (p : ℕ) → IsCompact k → p < k.book.logs → get_or k.told p 0 < get_or k.validated p 0 → left (one_more_of k.told p) + 1 ≡ left k.told
fewer-told k p is known below = left-one_more_of k.told p (omega (arith, known, is.told_counted)) (omega (arith, below, validated-le k p is known))

pub invariant_of-self : goal.invariant_of-self
invariant_of-self c =
    let n : NodeTerms = record { book = c.self.inside.book; hash = c.self.inside.hash; core = c.self.inside.core; tails = c.self.inside.tails.items } in
    let known : c.args.log < n.core.book.logs = omega (arith, c.requires.log_in, ap (λ (n : NodeTerms). n.core.book.logs) c.self.view_is) in
    let below : get_or n.core.told c.args.log 0 < get_or n.core.validated c.args.log 0 =
    subst (λ (n : NodeTerms). get_or n.core.told c.args.log 0 < get_or n.core.validated c.args.log 0) (sym c.self.view_is) c.requires.validated in
    subst (λ (k : CompactState). IsRecord (record n { core = k })) (sym c.tell.ensures.told) (IsRecord-told n c.args.log c.known.ensures known below c.self.invariant)

pub returns-clause-fewer : goal.returns-clause-fewer
returns-clause-fewer c =
    let n : NodeTerms = record { book = c.self.inside.book; hash = c.self.inside.hash; core = c.self.inside.core; tails = c.self.inside.tails.items } in
    let known : c.args.log < n.core.book.logs = omega (arith, c.requires.log_in, ap (λ (n : NodeTerms). n.core.book.logs) c.self.view_is) in
    let below : get_or n.core.told c.args.log 0 < get_or n.core.validated c.args.log 0 =
    subst (λ (n : NodeTerms). get_or n.core.told c.args.log 0 < get_or n.core.validated c.args.log 0) (sym c.self.view_is) c.requires.validated in
    omega (arith, ap (λ (k : CompactState). left k.told) c.tell.ensures.told, fewer-told n.core c.args.log c.known.ensures known below, ap (λ (n : NodeTerms). left n.core.told) c.self.view_is)

pub returns-clause-history : goal.returns-clause-history
returns-clause-history c = λ messages m history valid.
    let n : NodeTerms = record { book = c.self.inside.book; hash = c.self.inside.hash; core = c.self.inside.core; tails = c.self.inside.tails.items } in
    let known : c.args.log < n.core.book.logs = omega (arith, c.requires.log_in, ap (λ (n : NodeTerms). n.core.book.logs) c.self.view_is) in
    subst (λ (k : CompactState). IsHistoryOf messages (record n { core = k })) (sym c.tell.ensures.told)
    (IsHistoryOf-told n c.args.log m messages c.known.ensures known (subst (λ (n : NodeTerms). IsValid n.core.book messages n.core.told c.args.log m) (sym c.self.view_is) valid)
    (subst (IsHistoryOf messages) (sym c.self.view_is) history))
