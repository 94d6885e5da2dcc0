-- What `deps` leaves out of an account's credits.
use Rattle.std.proofs.Common.{◌≡◌, ℕ, ◌+◌, ◌<◌, ◌≤◌, pos, ◌≤ℤ◌, ◌↔◌, List, Some, length, get_or, take, ap, sym, ◌∙◌, arith}
use Rattle.at_broadcast.proofs.Prelude.{ℕ_set, ∥∥₁_elim, range_with_len, sum_by, Covers, LogTerms, account_on_logs, amount_since, MessageList, message_credit, sum_of_first, IsProgress, messages_of, sender_of, SenderState, credits_to, balance_at, went}
use Rattle.at_broadcast.proofs.BalanceLaws.{balance_at-covers, covers-from_balance_at}
use Rattle.at_broadcast.proofs.ProgressLaws.{length-messages_of, list_of-messages_of, went-deps}
use Rattle.at_broadcast.proofs.RangeLaws.{range-sum}
use Rattle.at_broadcast.proofs.SumLaws.{part}

-- of one sender
abbrev pub left_of : List SenderState → List ℕ → ℕ → ℕ → ℕ
left_of senders deps account q = amount_since (get_or deps q 0) (credits_to (sender_of senders q) account).list

-- of all senders
pub left_of-sum : (b : LogTerms) (counts : List ℕ) (senders : List SenderState) (balances deps : List ℕ) (account : ℕ)
    → IsProgress b counts senders balances → account < length b.accounts → Covers counts deps
    → sum_by (left_of senders deps account) (range_with_len 0 b.logs) + sum_of_first (message_credit account) (messages_of senders) deps
    ≡ sum_of_first (message_credit account) (messages_of senders) counts
left_of-sum b counts senders balances deps account is known covered =
    let messages : List MessageList = messages_of senders in
    let sized : length messages ≡ b.logs = length-messages_of senders ∙ is.sized in
    ap (λ n. sum_by (left_of senders deps account) (range_with_len 0 n) + sum_of_first (message_credit account) messages deps) (sym sized)
    ∙ range-sum (left_of senders deps account) (part (message_credit account) messages deps) (part (message_credit account) messages counts) 0 (length messages)
    (λ q low high.
    let process : q < b.logs = omega (arith, high, sized) in
    let below = covered q (omega (arith, process, is.counted)) in
    let same = list_of-messages_of senders q in
    omega (
      arith,
      ((is.credits q process).credits account known).since (get_or deps q 0) below,
      ap (λ (l : MessageList). sum_by (message_credit account) (take (get_or deps q 0) l)) same,
      ap (λ (l : MessageList). sum_by (message_credit account) (take (get_or counts q 0) l)) same,
    ))

-- the balance at `deps` covers an amount where the balance does so without what came since
pub covers-left_out : (b : LogTerms) (counts : List ℕ) (senders : List SenderState) (balances deps : List ℕ) (p account amount left_out : ℕ)
    → IsProgress b counts senders balances → account < length b.accounts → (account_on_logs b account).log ≡ Some p → get_or deps p 0 ≡ get_or counts p 0
    → Covers counts deps
    → left_out + sum_of_first (message_credit account) (messages_of senders) deps ≡ sum_of_first (message_credit account) (messages_of senders) counts
    → (amount + left_out ≤ get_or balances account 0) ↔ (pos amount ≤ℤ balance_at b (messages_of senders) deps account)
covers-left_out b counts senders balances deps p account amount left_out is known owner own covered left =
    let messages : List MessageList = messages_of senders in
    let went_same : went messages deps account ≡ went messages counts account =
    ∥∥₁_elim is.reached (ℕ_set _ _) (λ r. went-deps b messages counts deps p account (length-messages_of senders ∙ is.sized) r owner own covered) in (
      λ enough. balance_at-covers b messages deps account amount (omega (arith, enough, went_same, left, is.balance account known)),
      λ enough. omega (arith, covers-from_balance_at b messages deps account amount enough, went_same, left, is.balance account known),
    )
