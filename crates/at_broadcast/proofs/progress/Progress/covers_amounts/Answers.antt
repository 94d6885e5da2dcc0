use Rattle.std.proofs.Common.{◌≡◌, ℕ, ◌+◌, ◌<◌, pos, List, Some, length, get_or, ap, sym, subst, ◌∙◌, leb-true, le-leb, arith}
use Rattle.std.specs.Prelude.{◌≤ℤ◌}
use Rattle.at_broadcast.proofs.Prelude.{get_or_default_zero, Covers, amount_of, LogTerms, account_on_logs, Message, message_credit, sum_of_first, NodeState, balance_at}
use Rattle.at_broadcast.proofs.LeftLaws.{covers-left_out}
use Rattle.at_broadcast.proofs.progress.Progress.covers_amounts.Goals as goal

pub returns : goal.returns
returns c = λ p owner own.
    let b : LogTerms = c.self.inside.book in
    let balances : List ℕ = c.self.inside.balances.items in
    let m : Message = c.args.message.now in
    let amount : ℕ = amount_of m.targets in
    let left : ℕ = c.left_out-left_out.result in
    let source : m.from < length b.accounts = omega (arith, c.requires.message_in.source, ap (λ (s : NodeState). length s.book.accounts) c.self.view_is) in
    let both = covers-left_out b c.self.inside.validated c.self.inside.senders.items balances m.deps p m.from amount left c.self.invariant source
    (subst (λ (s : NodeState). (account_on_logs s.book m.from).log ≡ Some p) (sym c.self.view_is) owner)
    (subst (λ (s : NodeState). get_or m.deps p 0 ≡ get_or s.validated p 0) (sym c.self.view_is) own)
    (subst (λ (s : NodeState). Covers s.validated m.deps) (sym c.self.view_is) c.requires.covered)
    (subst (λ (s : NodeState). left + sum_of_first (message_credit m.from) s.messages m.deps ≡ sum_of_first (message_credit m.from) s.messages s.validated) (sym c.self.view_is) c.left_out-left_out.ensures.sum) in
    let balance : c.from.result ≡ get_or balances m.from 0 =
    c.from.ensures ∙ (c.index.ensures ∙ get_or_default_zero balances m.from c.index.result.now (omega (arith, source, c.self.invariant.balanced))) in (
      λ enough. subst (λ (s : NodeState). pos amount ≤ℤ balance_at s.book s.messages m.deps m.from) c.self.view_is
          (both.0 (omega (arith, leb-true _ _ enough, balance, c.sum.ensures.sum))),
      λ enough. le-leb _ _ (omega (
        arith,
        balance,
        c.sum.ensures.sum,
        both.1 (subst (λ (s : NodeState). pos amount ≤ℤ balance_at s.book s.messages m.deps m.from) (sym c.self.view_is) enough),
      )),
    )
