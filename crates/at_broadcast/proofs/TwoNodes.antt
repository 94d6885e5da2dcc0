-- A node that was given more, and two nodes that read the same logs.
use Rattle.std.proofs.Common.{◌≡◌, ℕ, zero, suc, ◌+◌, ◌<◌, ◌≤◌, ℤ, pos, ◌-ℤ◌, ◌≤ℤ◌, List, length, get_or, take, Option, None, Some, IsSome, refl, ap, sym, subst, ◌∙◌, arith, get_or-set_same}
use Rattle.at_broadcast.proofs.Prelude.{range_with_len, sum_by, le_prop, ∥∥₁_elim, ℕ_set, same_number_lists, amount_of, LogTerms, account_on_logs, Message, MessageList, list_of, message_credit, message_debit, message_of, sum_of_first, IsNode, NodeState, Extends, IsFinal, KeepsUp, SharesBalances, SharesPrefixes, IsValid, Reached, balance_at, came, one_more_of, went, zeros, raise}
use Rattle.at_broadcast.proofs.BalanceLaws.{balance_at-covers}
use Rattle.at_broadcast.proofs.NodeLaws.{HasPrefixes-IsNode}
use Rattle.at_broadcast.proofs.RangeLaws.{range-same, sum_by-take_more}
use Rattle.at_broadcast.proofs.ReachedLaws.{IsCounted, IsCounted-Reached, below-Reached, length-Reached}
use Rattle.at_broadcast.proofs.SumLaws.{part}

sum_by-take_same : (f : Option Message → ℕ) (xs ys : MessageList) (i : ℕ) → f None ≡ 0
    → ((k : ℕ) → k < i → get_or xs k None ≡ get_or ys k None) → sum_by f (take i xs) ≡ sum_by f (take i ys)
sum_by-take_same f xs ys zero none same = refl
sum_by-take_same f xs ys (suc i) none same =
    omega (
      arith,
      sum_by-take_more f xs i none,
      sum_by-take_more f ys i none,
      sum_by-take_same f xs ys i none (λ k below. same k (omega arith)),
      ap f (same i (omega arith)),
    )

-- sums over counted messages
sum_of_first-Extends : (weight : Option Message → ℕ) (b : LogTerms) (messages more : List MessageList) (counts reached : List ℕ)
    → weight None ≡ 0 → Extends messages more → Reached b messages reached
    → ((p : ℕ) → p < length messages → get_or counts p 0 ≤ get_or reached p 0)
    → sum_of_first weight more counts ≡ sum_of_first weight messages counts
sum_of_first-Extends weight b messages more counts reached none ext r below =
    ap (λ n. sum_by (part weight more counts) (range_with_len 0 n)) ext.sized
    ∙ range-same (part weight more counts) (part weight messages counts) 0 (length messages)
    (λ p low high. sum_by-take_same weight (list_of more p) (list_of messages p) (get_or counts p 0) none (λ k within. same p k (omega arith) within)) where
      same : (p k : ℕ) → p < length messages → k < get_or counts p 0 → message_of more p k ≡ message_of messages p k
      same p k known within =
          let c : IsCounted b messages p k = IsCounted-Reached b messages reached r p k (omega (arith, below p known, within)) in
          ext.kept p k c.message c.delivered ∙ sym c.delivered

balance_at-Extends : (b : LogTerms) (messages more : List MessageList) (counts reached : List ℕ) (account : ℕ)
    → Extends messages more → Reached b messages reached → ((p : ℕ) → p < length messages → get_or counts p 0 ≤ get_or reached p 0)
    → balance_at b more counts account ≡ balance_at b messages counts account
unfolding balance_at
balance_at-Extends b messages more counts reached account ext r below =
    let credits = sum_of_first-Extends (message_credit account) b messages more counts reached refl ext r below in
    let debits = sum_of_first-Extends (message_debit account) b messages more counts reached refl ext r below in
    ap (λ (n : ℕ). pos ((account_on_logs b account).opening + n) -ℤ pos (went more counts account)) credits
    ∙ ap (λ (n : ℕ). pos (came b messages counts account) -ℤ pos n) debits

Reached-Extends : (b : LogTerms) (messages more : List MessageList) (counts : List ℕ) → Extends messages more → length messages ≡ b.logs
    → Reached b messages counts → Reached b more counts
Reached-Extends b messages more _ ext sized zeros = zeros
Reached-Extends b messages more _ ext sized (raise counts p m before valid) =
    raise counts p m (Reached-Extends b messages more counts ext sized before) (record {
      delivered = ext.kept p (get_or counts p 0) m valid.delivered;
      owner = valid.owner;
      own = valid.own;
      covered = valid.covered;
      balance = subst (λ (z : ℤ). pos (amount_of m.targets) ≤ℤ z)
          (sym (balance_at-Extends b messages more m.deps counts m.from ext before
          (λ q known. valid.covered q (omega (arith, known, sized, length-Reached b messages counts before))))) valid.balance;
    })

-- what is reached by the messages of one node is at most what the other has validated
below-Follows : (other s : NodeState) (counts : List ℕ) → IsNode s → other.book ≡ s.book → Reached other.book s.messages counts
    → (p : ℕ) → get_or counts p 0 ≤ get_or s.validated p 0
below-Follows other s counts node book r =
    below-Reached s.book s.messages counts s.validated (subst (λ (b : LogTerms). Reached b s.messages counts) book r) node.steady.counted node.done

pub KeepsUp-IsNode : (s : NodeState) → IsNode s → KeepsUp s
KeepsUp-IsNode s node other follows p =
    ∥∥₁_elim follows.node.steady.reached le_prop (λ r.
    below-Follows other s other.validated node follows.book
    (Reached-Extends other.book other.messages s.messages other.validated follows.given follows.node.steady.sized r) p)

pub IsFinal-IsNode : (s : NodeState) → IsNode s → IsFinal s
IsFinal-IsNode s node other p m follows made there =
    ∥∥₁_elim follows.node.steady.reached le_prop (λ r. done r) where
      valid : Reached other.book other.messages other.validated → IsValid other.book s.messages other.validated p m
      valid r = record {
        delivered = there;
        owner = made.owner;
        own = ap (λ (d : List ℕ). get_or d p 0) made.deps;
        covered = λ i within. omega (arith, ap (λ (d : List ℕ). get_or d i 0) made.deps);
        balance = subst (λ (d : List ℕ). pos (amount_of m.targets) ≤ℤ balance_at other.book s.messages d m.from) (sym made.deps)
            (subst (λ (z : ℤ). pos (amount_of m.targets) ≤ℤ z)
            (sym (balance_at-Extends other.book other.messages s.messages other.validated other.validated m.from follows.given r (λ q known. omega arith)))
            (balance_at-covers other.book other.messages other.validated m.from (amount_of m.targets) (omega (arith, follows.node.steady.balance m.from made.source, made.amount))));
      }

      done : Reached other.book other.messages other.validated → get_or other.validated p 0 + 1 ≤ get_or s.validated p 0
      done r =
          let more : Reached other.book s.messages (one_more_of other.validated p) =
          raise other.validated p m (Reached-Extends other.book other.messages s.messages other.validated follows.given follows.node.steady.sized r) (valid r) in
          let most = below-Follows other s (one_more_of other.validated p) node follows.book more p in
          omega (arith, most, get_or-set_same other.validated p (get_or other.validated p 0 + 1) 0 (omega (arith, made.log, follows.node.steady.counted)))

-- a message that is there stands in the logs
message-logs : (o l : Option Message) → IsSome o → ((m : Message) → o ≡ Some m → l ≡ Some m) → o ≡ l
message-logs None l some kept = absurd cc
message-logs (Some m) l some kept = sym (kept m refl)

-- so does all that a node has validated
validated-logs : (s : NodeState) (logs : List MessageList) → IsNode s → Extends s.messages logs → (p number : ℕ) → number < get_or s.validated p 0
    → message_of s.messages p number ≡ message_of logs p number
validated-logs s logs node read p number below =
    message-logs (message_of s.messages p number) (message_of logs p number) (HasPrefixes-IsNode s node p number below) (read.kept p number)

pub SharesPrefixes-IsNode : (s : NodeState) → IsNode s → SharesPrefixes s
SharesPrefixes-IsNode s node logs other read p number below_there below_here =
    validated-logs other logs read.node read.there p number below_there ∙ sym (validated-logs s logs node read.here p number below_here)

-- the sums over what a node has validated are those over the logs
sum_of_first-logs : (weight : Option Message → ℕ) (s : NodeState) (logs : List MessageList) → weight None ≡ 0 → IsNode s → Extends s.messages logs
    → sum_of_first weight logs s.validated ≡ sum_of_first weight s.messages s.validated
sum_of_first-logs weight s logs none node read =
    ∥∥₁_elim node.steady.reached (ℕ_set _ _) (λ r. sum_of_first-Extends weight s.book s.messages logs s.validated s.validated none read r (λ p known. omega arith))

pub SharesBalances-IsNode : (s : NodeState) → IsNode s → SharesBalances s
SharesBalances-IsNode s node logs other read book counts =
    let accounts = ap (λ (b : LogTerms). length b.accounts) book in
    same_number_lists other.balances s.balances (omega (arith, read.node.steady.balanced, node.steady.balanced, accounts)) (λ a within.
    let known : a < length other.book.accounts = omega (arith, within, read.node.steady.balanced) in
    omega (
      arith,
      read.node.steady.balance a known,
      node.steady.balance a (omega (arith, known, accounts)),
      ap (λ (b : LogTerms). (account_on_logs b a).opening) book,
      sum_of_first-logs (message_credit a) other logs refl read.node read.there,
      sum_of_first-logs (message_debit a) other logs refl read.node read.there,
      sum_of_first-logs (message_credit a) s logs refl node read.here,
      sum_of_first-logs (message_debit a) s logs refl node read.here,
      ap (λ (l : List ℕ). sum_of_first (message_credit a) logs l) counts,
      ap (λ (l : List ℕ). sum_of_first (message_debit a) logs l) counts,
    ))
