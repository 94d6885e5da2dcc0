use Rattle.at_broadcast.proofs.Prelude.{common_steps, range_with_len, sum_by, get_or_read, Covers, LogTerms, amount_since, message_credit, sum_of_first, NodeState, messages_of, no_sender, SenderState, credits_to}
use Rattle.std.proofs.Common.{◌≡◌, ℕ, ◌+◌, ◌<◌, List, length, get_or, ap, sym, subst, ◌∙◌, add-one, zero-add, arith}
use Rattle.at_broadcast.proofs.LeftLaws.{left_of, left_of-sum}
use Rattle.at_broadcast.proofs.RangeLaws.{range-more}
use Rattle.at_broadcast.proofs.progress.Progress.left_out.Goals as goal

pub loop-q-preserved : goal.loop-q-preserved
loop-q-preserved c =
    let b : LogTerms = c.self.inside.book in
    let senders : List SenderState = c.self.inside.senders.items in
    let counts : List ℕ = c.self.inside.validated in
    let deps : List ℕ = c.args.deps.now in
    let a : ℕ = c.args.account in
    let q : ℕ = c.loop-q.q in
    let process : q < b.logs = omega (arith, c.loop-q-test.true, c.logs-q-end.ensures) in
    let inside : q < length senders = omega (arith, process, c.self.invariant.sized) in
    let known : a < length b.accounts = omega (arith, c.requires.account_in, ap (λ (s : NodeState). length s.book.accounts) c.self.view_is) in
    let read = get_or_read senders q c.index.result.now inside c.index.ensures no_sender in
    let more = range-more (left_of senders deps a) 0 q in
    let here : c.since-sum.result ≡ left_of senders deps a q =
    c.since-sum.ensures.sum
    ∙ (ap (λ n. amount_since n (credits_to c.index.result.now a).list) c.get.ensures ∙ ap (λ (s : SenderState). amount_since (get_or deps q 0) (credits_to s a).list) read) in
    let few = ((c.self.invariant.credits q process).credits a known).few in
    record {
      summed = omega (arith, here, c.loop-q.invariant.summed, more, ap (λ n. sum_by (left_of senders deps a) (range_with_len 0 n)) (add-one q), ap (left_of senders deps a) (zero-add q));
      small = omega (arith, c.loop-q.invariant.small, c.since-sum.ensures.small, few, (c.self.invariant.credits q process).within, ap (λ (s : SenderState). length (credits_to s a).list) read);
    }

pub returns-clause-sum : goal.returns-clause-sum
returns-clause-sum c =
    let b : LogTerms = c.self.inside.book in
    let senders : List SenderState = c.self.inside.senders.items in
    let counts : List ℕ = c.self.inside.validated in
    let deps : List ℕ = c.args.deps.now in
    let a : ℕ = c.args.account in
    let known : a < length b.accounts = omega (arith, c.requires.account_in, ap (λ (s : NodeState). length s.book.accounts) c.self.view_is) in
    let covered = subst (λ (s : NodeState). Covers s.validated deps) (sym c.self.view_is) c.requires.covered in
    let end : c.loop-q.q ≡ b.logs = omega (arith, c.loop-q-test.false, c.loop-q.auto.q-end, c.logs-q-end.ensures) in
    subst (λ (s : NodeState). c.loop-q.sum + sum_of_first (message_credit a) s.messages deps ≡ sum_of_first (message_credit a) s.messages s.validated) c.self.view_is
    (ap (λ n. n + sum_of_first (message_credit a) (messages_of senders) deps)
    (c.loop-q.invariant.summed ∙ ap (λ n. sum_by (left_of senders deps a) (range_with_len 0 n)) end)
    ∙ left_of-sum b counts senders c.self.inside.balances.items deps a c.self.invariant known covered)

pub overflow_add-sum : goal.overflow_add-sum
overflow_add-sum c = grind (arith, common_steps)
