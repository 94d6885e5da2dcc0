use Rattle.std.proofs.Common.{ℕ, List, length, replicate, ap, sym, subst, ◌∙◌}
use Rattle.at_broadcast.proofs.Prelude.{LogTerms, starting_state, IsProgress, messages_of, SenderState, new_sender}
use Rattle.at_broadcast.proofs.NodeLaws.{same_state}
use Rattle.at_broadcast.proofs.StartLaws.{IsProgress-new, IsSteady-IsProgress, messages_of-new}
use Rattle.at_broadcast.proofs.progress.Progress.new.Goals.{After-zeros}
use Rattle.at_broadcast.proofs.progress.Progress.new.Goals as goal

-- a progress that has just begun
begun : (c : After-zeros) → IsProgress c.in_ok-copy.field-0 c.zeros.result c.in_ok-senders.senders.items c.in_ok-balances.balances.items
begun c =
    let b : LogTerms = c.args.book.now in
    let senders : List SenderState = c.in_ok-senders.senders.items in
    let balances : List ℕ = c.in_ok-balances.balances.items in
    subst (λ (b : LogTerms). IsProgress b c.zeros.result senders balances) (sym c.in_ok-copy.ensures)
    (subst (λ (l : List ℕ). IsProgress b l senders balances) (sym (c.zeros.ensures ∙ ap (λ n. replicate n 0) c.logs.ensures))
    (subst (λ (l : List SenderState). IsProgress b (replicate b.logs 0) l balances) (sym c.in_ok-senders.ensures)
    (subst (λ (l : List ℕ). IsProgress b (replicate b.logs 0) (replicate b.logs (new_sender (length b.accounts))) l) (sym c.in_ok-balances.ensures.openings)
    (IsProgress-new b c.openings.ensures.checked))))

pub invariant_of-result : goal.invariant_of-result
invariant_of-result c = begun (goal.at.invariant_of-result c).After-zeros

pub returns-clause-start : goal.returns-clause-start
returns-clause-start c =
    let b : LogTerms = c.args.book.now in
    same_state
    (record { book = c.in_ok-copy.field-0; messages = messages_of c.in_ok-senders.senders.items; validated = c.zeros.result; balances = c.in_ok-balances.balances.items })
    (starting_state b) c.in_ok-copy.ensures
    (ap (λ (l : List SenderState). messages_of l) c.in_ok-senders.ensures ∙ messages_of-new b.logs (length b.accounts))
    (c.zeros.ensures ∙ ap (λ n. replicate n 0) c.logs.ensures)
    c.in_ok-balances.ensures.openings

pub returns-clause-steady : goal.returns-clause-steady
returns-clause-steady c = IsSteady-IsProgress c.in_ok-copy.field-0 c.zeros.result c.in_ok-senders.senders.items c.in_ok-balances.balances.items (begun c)
