-- What stands after the counted messages changes nothing of them.
use Rattle.std.proofs.Common.{◌≡◌, ◌≢◌, ℕ, zero, suc, ◌+◌, ◌-◌, ◌<◌, ◌≤◌, ℤ, pos, ◌-ℤ◌, ◌≤ℤ◌, List, [], ◌∷◌, length, get_or, set, take, drop, Option, None, Some, refl, length-set, ap, sym, subst, ◌∙◌, inl, inr, arith, get_or-set_same, get_or-set_other}
use Rattle.at_broadcast.proofs.Prelude.{cases_eq, set-get_or, set-set, take_all, amount_of, LogTerms, account_on_logs, Message, MessageList, list_of, message_at, message_credit, message_debit, IsUndelivered, message_of, with_message, with_messages, with_place, IsValid, Reached, balance_at, came, went, one_more_of, zeros, raise}
use Rattle.at_broadcast.proofs.ReachedLaws.{length-Reached, one_more_of-ge}
use Rattle.at_broadcast.proofs.SumLaws.{list_of-other, list_of-same, sum_of_first-with_place}

-- what stands there
pub message_of-here : (messages : List MessageList) (p number : ℕ) (o : Option Message) → p < length messages → number < length (list_of messages p)
    → message_of (with_place messages p number o) p number ≡ o
message_of-here messages p number o known within =
    ap (λ (l : MessageList). message_at l number) (list_of-same messages p number o known)
    ∙ get_or-set_same (list_of messages p) number o None within

pub message_of-new : (messages : List MessageList) (p number : ℕ) (m : Message) → p < length messages → number < length (list_of messages p)
    → message_of (with_message messages p number m) p number ≡ Some m
message_of-new messages p number m = message_of-here messages p number (Some m)

-- the others
pub message_of-place : (messages : List MessageList) (p number q k : ℕ) (o : Option Message) → p < length messages → (q ≡ p → k ≢ number)
    → message_of (with_place messages p number o) q k ≡ message_of messages q k
message_of-place messages p number q k o known apart =
    elim (cases_eq q p) as (λ _. message_of (with_place messages p number o) q k ≡ message_of messages q k) [
      | inl same ↦
          ap (λ (i : ℕ). message_of (with_place messages p number o) i k) same
          ∙ (ap (λ (l : MessageList). message_at l k) (list_of-same messages p number o known)
          ∙ (get_or-set_other (list_of messages p) number k o None (apart same)
          ∙ ap (λ (i : ℕ). message_of messages i k) (sym same)))
      | inr other ↦ ap (λ (l : MessageList). message_at l k) (list_of-other messages p number q o other)
    ]

pub message_of-other : (messages : List MessageList) (p number q k : ℕ) (m : Message) → p < length messages → (q ≡ p → k ≢ number)
    → message_of (with_message messages p number m) q k ≡ message_of messages q k
message_of-other messages p number q k m = message_of-place messages p number q k (Some m)

-- a message that was let go where none was before
pub with_place-with_message : (messages : List MessageList) (p number : ℕ) (m : Message) → p < length messages → message_of messages p number ≡ None
    → with_place (with_message messages p number m) p number None ≡ messages
with_place-with_message messages p number m known none =
    set-set messages p (set (list_of messages p) number (Some m)) (set (list_of (with_message messages p number m) p) number None)
    ∙ (ap (λ (l : MessageList). set messages p (set l number None)) (list_of-same messages p number (Some m) known)
    ∙ (ap (set messages p) (set-set (list_of messages p) number (Some m) None ∙ (ap (set (list_of messages p) number) (sym none) ∙ set-get_or (list_of messages p) number None))
    ∙ set-get_or messages p []))

-- the balance at counts that stop before the place
pub balance_at-with_place : (b : LogTerms) (messages : List MessageList) (counts : List ℕ) (p number account : ℕ) (o : Option Message)
    → p < length messages → get_or counts p 0 ≤ number
    → balance_at b (with_place messages p number o) counts account ≡ balance_at b messages counts account
unfolding balance_at
balance_at-with_place b messages counts p number account o known after =
    let credits = sum_of_first-with_place (message_credit account) messages counts p number o known after in
    let debits = sum_of_first-with_place (message_debit account) messages counts p number o known after in
    ap (λ (n : ℕ). pos ((account_on_logs b account).opening + n) -ℤ pos (went (with_place messages p number o) counts account)) credits
    ∙ ap (λ (n : ℕ). pos (came b messages counts account) -ℤ pos n) debits

-- what is valid before the place stays so
IsValid-with_place : (b : LogTerms) (messages : List MessageList) (counts : List ℕ) (p number q : ℕ) (o : Option Message) (m : Message)
    → p < length messages → p < length counts → get_or counts p 0 ≤ number → (q ≡ p → get_or counts q 0 ≢ number)
    → IsValid b messages counts q m → IsValid b (with_place messages p number o) counts q m
IsValid-with_place b messages counts p number q o m known counted after apart valid = record {
  delivered = message_of-place messages p number q (get_or counts q 0) o known apart ∙ valid.delivered;
  owner = valid.owner;
  own = valid.own;
  covered = valid.covered;
  balance = subst (λ (z : ℤ). pos (amount_of m.targets) ≤ℤ z)
      (sym (balance_at-with_place b messages m.deps p number m.from o known (omega (arith, valid.covered p counted, after)))) valid.balance;
}

-- and what is reached
pub Reached-with_place : (b : LogTerms) (messages : List MessageList) (counts : List ℕ) (p number : ℕ) (o : Option Message)
    → p < length messages → p < b.logs → get_or counts p 0 ≤ number
    → Reached b messages counts → Reached b (with_place messages p number o) counts
Reached-with_place b messages _ p number o known process after zeros = zeros
Reached-with_place b messages _ p number o known process after (raise counts q m before valid) =
    let counted : p < length counts = omega (arith, length-Reached b messages counts before, process) in
    let below : get_or counts p 0 ≤ number = omega (arith, after, one_more_of-ge counts q p) in
    raise counts q m (Reached-with_place b messages counts p number o known process below before)
    (IsValid-with_place b messages counts p number q o m known counted below
    (λ same e. omega (arith, after, e, ap (λ k. get_or (one_more_of counts k) p 0) same, ap (λ k. get_or counts k 0) same, get_or-set_same counts p (get_or counts p 0 + 1) 0 counted)) valid)

-- none of the others was delivered where one more is
pub IsUndelivered-next : (messages : List MessageList) (p number count : ℕ) (m : Message) → p < length messages → IsUndelivered messages p number (count + 1)
    → IsUndelivered (with_message messages p number m) p (number + 1) count
IsUndelivered-next messages p number count m known none k within =
    let next : number + 1 + k ≡ number + (k + 1) = omega arith in
    message_of-other messages p number p (number + 1 + k) m known (λ _ e. omega (arith, e)) ∙ (ap (message_of messages p) next ∙ none (k + 1) (omega (arith, within)))

-- the messages after the first
abbrev pub others_of : List Message → List Message
others_of messages = take (length messages - 1) (drop 1 messages)

pub split_first : (messages : List Message) (d : Message) → 1 ≤ length messages → messages ≡ get_or messages 0 d ∷ others_of messages
split_first [] d some = absurd (omega (arith, some))
split_first (m ∷ messages) d some =
    let count : length (m ∷ messages) - 1 ≡ length messages = omega arith in
    ap (λ l. m ∷ l) (sym (ap (λ n. take n messages) count ∙ take_all (length messages) messages (omega arith)))

-- what stands at no place of more messages
pub message_of-unlisted : (messages : List MessageList) (p number : ℕ) (more : List Message) (q k : ℕ) → p < length messages
    → (q ≡ p → number ≤ k → number + length more ≤ k) → message_of (with_messages messages p number more) q k ≡ message_of messages q k
message_of-unlisted messages p number [] q k known apart = refl
message_of-unlisted messages p number (m ∷ more) q k known apart =
    message_of-unlisted (with_message messages p number m) p (number + 1) more q k (omega (arith, known, length-set messages p (set (list_of messages p) number (Some m))))
    (λ same low. omega (arith, apart same (omega (arith, low)), low))
    ∙ message_of-other messages p number q k m known (λ same e. omega (arith, apart same (omega (arith, e)), e))

-- and what stands at one
pub message_of-listed : (messages : List MessageList) (p number : ℕ) (more : List Message) (i : ℕ) (d : Message) → p < length messages
    → number + length more ≤ length (list_of messages p) → i < length more → message_of (with_messages messages p number more) p (number + i) ≡ Some (get_or more i d)
message_of-listed messages p number [] i d known room within = absurd (omega (arith, within))
message_of-listed messages p number (m ∷ more) zero d known room within =
    let listed : p < length (with_message messages p number m) = omega (arith, known, length-set messages p (set (list_of messages p) number (Some m))) in
    let first : number + 0 ≡ number = omega arith in
    ap (message_of (with_messages (with_message messages p number m) p (number + 1) more) p) first
    ∙ (message_of-unlisted (with_message messages p number m) p (number + 1) more p number listed (λ _ low. omega (arith, low))
    ∙ message_of-new messages p number m known (omega (arith, room)))
message_of-listed messages p number (m ∷ more) (suc i) d known room within =
    let listed : p < length (with_message messages p number m) = omega (arith, known, length-set messages p (set (list_of messages p) number (Some m))) in
    let long : length (list_of (with_message messages p number m) p) ≡ length (list_of messages p) =
    ap (λ (l : MessageList). length l) (list_of-same messages p number (Some m) known) ∙ length-set (list_of messages p) number (Some m) in
    let next : number + suc i ≡ number + 1 + i = omega arith in
    ap (message_of (with_messages (with_message messages p number m) p (number + 1) more) p) next
    ∙ message_of-listed (with_message messages p number m) p (number + 1) more i d listed (omega (arith, room, long)) (omega (arith, within))
