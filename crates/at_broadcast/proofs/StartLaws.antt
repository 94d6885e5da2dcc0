-- A node to which nothing was delivered; and what holds of the state that a node shows.
use Rattle.std.proofs.Common.{◌≡◌, ℕ, zero, suc, ◌+◌, ◌*◌, ◌≤◌, List, [], ◌∷◌, length, map, replicate, take, sum, sum_by, Option, None, Some, refl, ap, sym, subst, ◌∙◌, inl, inr, arith}
use Rattle.at_broadcast.proofs.Prelude.{range_with_len, get_or-eq_default, get_or-map, cases_lt, get_or-replicate, length-map, length-replicate, sum_by-replicate, sum_by-cons, no_account_on_logs, LogAccount, LogTerms, IsLogBook, Message, MESSAGES_MAX, MessageList, list_of, message_at, message_credit, message_debit, message_of, no_messages, times_named, sum_of_first, IsSteady, IsProgress, messages_of, no_sender, sender_of, AreCreditsTo, IsSender, SenderState, brought, new_sender, no_credits, zeros}
use Rattle.at_broadcast.proofs.FilledLaws.{get_or-replicated}
use Rattle.at_broadcast.proofs.ProgressLaws.{differ, length-messages_of, list_of-messages_of}
use Rattle.at_broadcast.proofs.RangeLaws.{range-same}
use Rattle.at_broadcast.proofs.ReachedLaws.{get_or-zeros}
use Rattle.at_broadcast.proofs.SumLaws.{part}

range-zeros : (a n : ℕ) → sum_by (λ (i : ℕ). 0) (range_with_len a n) ≡ 0
range-zeros a zero = refl
range-zeros a (suc n) = omega (arith, range-zeros (a + 1) n, sum_by-cons (λ (i : ℕ). 0) a (range_with_len (a + 1) n))

sum_of_first-zeros : (weight : Option Message → ℕ) (messages : List MessageList) (n : ℕ) → sum_of_first weight messages (replicate n 0) ≡ 0
sum_of_first-zeros weight messages n =
    range-same (part weight messages (replicate n 0)) (λ (i : ℕ). 0) 0 (length messages)
    (λ p low high. ap (λ k. sum_by weight (take k (list_of messages p))) (get_or-zeros n p))
    ∙ range-zeros 0 (length messages)

sum-map : (f : LogAccount → ℕ) (xs : List LogAccount) → sum (map f xs) ≡ sum_by f xs
sum-map f [] = refl
sum-map f (x ∷ xs) = omega (arith, sum-map f xs, sum_by-cons f x xs, sum_by-cons (λ (n : ℕ). n) (f x) (map f xs))

length-no_messages : length no_messages ≡ MESSAGES_MAX
unfolding no_messages
length-no_messages = length-replicate {A = Option Message} MESSAGES_MAX None

message_at-no_messages : (number : ℕ) → message_at no_messages number ≡ None
unfolding no_messages
message_at-no_messages number = get_or-replicated {X = Option Message} MESSAGES_MAX number None

sum_by-no_messages : (weight : Option Message → ℕ) → weight None ≡ 0 → sum_by weight no_messages ≡ 0
unfolding no_messages
sum_by-no_messages weight none = sum_by-replicate weight MESSAGES_MAX None ∙ ap (λ n. MESSAGES_MAX * n) none

IsSender-new : (accounts : ℕ) → IsSender accounts 0 (new_sender accounts)
IsSender-new accounts = record {
  messages = length-no_messages;
  within = omega arith;
  sized = length-replicate accounts no_credits;
  credits = λ a known. subst (AreCreditsTo no_messages 0 a) (sym (get_or-replicated accounts a no_credits)) (record {
    earlier = λ k d h. absurd (omega arith);
    few = omega arith;
    since = λ count below. let none : count ≡ 0 = omega arith in ap (λ n. 0 + brought no_messages a n) none ∙ omega arith;
    room = omega (arith, sum_by-no_messages (times_named a) refl);
  });
}

pub IsProgress-new : (b : LogTerms) → IsLogBook b
    → IsProgress b (replicate b.logs 0) (replicate b.logs (new_sender (length b.accounts))) (map (λ t. t.opening) b.accounts)
IsProgress-new b book =
    let n : ℕ = b.logs in
    let new : SenderState = new_sender (length b.accounts) in
    let senders : List SenderState = replicate n new in
    let messages : List MessageList = messages_of senders in
    record {
      book = book;
      counted = length-replicate n 0;
      sized = length-replicate n new;
      credits = λ p process.
          subst (λ (k : ℕ). IsSender (length b.accounts) k (sender_of senders p)) (sym (get_or-zeros n p))
          (subst (IsSender (length b.accounts) 0) (sym (get_or-replicate n p new no_sender process)) (IsSender-new (length b.accounts)));
      known = λ p number m there. absurd (nothing p number m there);
      reached = ∣ zeros ∣₁;
      balanced = length-map b.accounts (λ (t : LogAccount). t.opening);
      balance = λ a known.
          omega (
            arith,
            sum_of_first-zeros (message_debit a) messages n,
            sum_of_first-zeros (message_credit a) messages n,
            get_or-map (λ (t : LogAccount). t.opening) b.accounts a no_account_on_logs,
          );
      total = sum-map (λ (t : LogAccount). t.opening) b.accounts;
    } where
      empty : (p number : ℕ) → message_at (sender_of (replicate b.logs (new_sender (length b.accounts))) p).messages number ≡ None
      empty p number =
          let n : ℕ = b.logs in
          let new : SenderState = new_sender (length b.accounts) in
          elim (cases_lt p n) as (λ _. message_at (sender_of (replicate n new) p).messages number ≡ None) [
            | inl inside ↦ ap (λ (s : SenderState). message_at s.messages number) (get_or-replicate n p new no_sender inside) ∙ message_at-no_messages number
            | inr past ↦
                let beyond : length (replicate n new) ≤ p = omega (arith, past, length-replicate n new) in
                ap (λ (s : SenderState). message_at s.messages number) (get_or-eq_default (replicate n new) no_sender beyond)
          ]

      nothing : (p number : ℕ) (m : Message) → message_of (messages_of (replicate b.logs (new_sender (length b.accounts)))) p number ≡ Some m → ⊥
      nothing p number m there =
          let senders : List SenderState = replicate b.logs (new_sender (length b.accounts)) in
          differ m (sym (ap (λ (l : MessageList). message_at l number) (list_of-messages_of senders p) ∙ empty p number) ∙ there)

-- the messages of new senders
pub messages_of-new : (n accounts : ℕ) → messages_of (replicate n (new_sender accounts)) ≡ replicate n no_messages
messages_of-new zero accounts = refl
messages_of-new (suc n) accounts = ap (λ l. no_messages ∷ l) (messages_of-new n accounts)

-- nothing is valid next where nothing was delivered
pub none-start : (b : LogTerms) (n p number : ℕ) (m : Message) → message_of (replicate n no_messages) p number ≡ Some m → ⊥
none-start b n p number m there =
    elim (cases_lt p n) as (λ _. ⊥) [
      | inl inside ↦ differ m (sym (ap (λ (l : MessageList). message_at l number) (get_or-replicate n p no_messages [] inside) ∙ message_at-no_messages number) ∙ there)
      | inr past ↦
          let beyond : length (replicate n no_messages) ≤ p = omega (arith, past, length-replicate n no_messages) in
          differ m (sym (ap (λ (l : MessageList). message_at l number) (get_or-eq_default (replicate n no_messages) [] beyond)) ∙ there)
    ]

pub IsSteady-IsProgress : (b : LogTerms) (counts : List ℕ) (senders : List SenderState) (balances : List ℕ) → IsProgress b counts senders balances
    → IsSteady (record { book = b; messages = messages_of senders; validated = counts; balances = balances })
IsSteady-IsProgress b counts senders balances is = record {
  book = is.book;
  sized = length-messages_of senders ∙ is.sized;
  lists = λ p process. ap (λ (l : MessageList). length l) (list_of-messages_of senders p) ∙ (is.credits p process).messages;
  counted = is.counted;
  reached = is.reached;
  balanced = is.balanced;
  balance = is.balance;
  total = is.total;
}
