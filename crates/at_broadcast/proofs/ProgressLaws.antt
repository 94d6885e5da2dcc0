-- What holds of a node's progress, after one more delivery and after one more validation.
use Rattle.std.proofs.Common.{◌≡◌, ◌≢◌, ℕ, ◌+◌, ◌-◌, ◌<◌, ◌≤◌, List, [], length, get_or, set, take, sum_by, Option, None, Some, is_some, refl, ap, sym, subst, ◌∙◌, inl, inr, arith, length-set, get_or-set_same, get_or-set_other}
use Rattle.at_broadcast.proofs.Prelude.{le_prop, get_or-eq_default, get_or-map, ∥∥₁_elim, ∥∥₁_map, map-set_same, cases_eq, cases_lt, nat_tests, common_steps, map-set, sum_by-set, Covers, credited, AreTargetsOn, TargetPair, amount_of, LogTerms, account_on_logs, Message, MESSAGES_MAX, IsMessageOn, MessageList, list_of, message_at, message_credit, message_debit, message_of, sum_of_first, with_place, left, IsProgress, messages_of, no_sender, sender_of, IsSender, IsStored, MakesRoom, SenderState, message_counted, IsValid, Reached, came, went, one_more_of, raise}
use Rattle.at_broadcast.proofs.BalanceLaws.{covers-from_balance_at}
use Rattle.at_broadcast.proofs.FilledLaws.{within-there}
use Rattle.at_broadcast.proofs.MessageLaws.{Reached-with_place, message_of-here, message_of-place}
use Rattle.at_broadcast.proofs.MoveLaws.{get_or-moved, length-moved, moved, sum-moved}
use Rattle.at_broadcast.proofs.RangeLaws.{sum_by-take_none}
use Rattle.at_broadcast.proofs.ReachedLaws.{IsCounted, IsCounted-Reached, after-Reached, length-Reached}
use Rattle.at_broadcast.proofs.SenderLaws.{IsSender-message_counted, IsSender-roomier, IsSender-stored, messages-message_counted}
use Rattle.at_broadcast.proofs.SumLaws.{part, sum_of_first-le, sum_of_first-one_more_of, sum_of_first-same, sum_of_first-with_place}

-- the list of a sender is what is kept of it
pub list_of-messages_of : (senders : List SenderState) (p : ℕ) → list_of (messages_of senders) p ≡ (sender_of senders p).messages
list_of-messages_of senders p = get_or-map (λ (s : SenderState). s.messages) senders p no_sender

pub length-messages_of : (senders : List SenderState) → length (messages_of senders) ≡ length senders
length-messages_of senders = grind (arith, common_steps)

pub messages_of-stored : (senders : List SenderState) (p number : ℕ) (o : Option Message) (new : SenderState) → IsStored (sender_of senders p) number o new
    → messages_of (set senders p new) ≡ with_place (messages_of senders) p number o
messages_of-stored senders p number o new stored =
    map-set (λ (s : SenderState). s.messages) senders p new
    ∙ ap (λ (l : MessageList). set (messages_of senders) p l) (stored.messages ∙ ap (λ (l : MessageList). set l number o) (sym (list_of-messages_of senders p)))

pub messages_of-same : (senders : List SenderState) (p : ℕ) (new : SenderState) → new.messages ≡ (sender_of senders p).messages
    → messages_of (set senders p new) ≡ messages_of senders
messages_of-same senders p new same = map-set_same (λ (s : SenderState). s.messages) senders p new no_sender same

pub messages_of-message_counted : (senders : List SenderState) (p number : ℕ) (targets : List TargetPair)
    → messages_of (set senders p (message_counted (sender_of senders p) number targets)) ≡ messages_of senders
messages_of-message_counted senders p number targets =
    messages_of-same senders p (message_counted (sender_of senders p) number targets) (messages-message_counted (sender_of senders p) number targets)

-- what isn't delivered comes after what is validated
pub validated-le : (b : LogTerms) (counts : List ℕ) (senders : List SenderState) (balances : List ℕ) (p number : ℕ)
    → IsProgress b counts senders balances → message_of (messages_of senders) p number ≡ None → get_or counts p 0 ≤ number
validated-le b counts senders balances p number is none =
    ∥∥₁_elim is.reached le_prop (λ r. after-Reached b (messages_of senders) counts r p number none)

-- messages that name accounts of the book, where one more stands at a place or none
known-with_place : (b : LogTerms) (messages : List MessageList) (p number : ℕ) (o : Option Message) → p < length messages
    → number < length (list_of messages p) → ((m : Message) → o ≡ Some m → IsMessageOn b.logs (length b.accounts) m) → ((q k : ℕ) (other : Message) → message_of messages q k ≡ Some other → IsMessageOn b.logs (length b.accounts) other)
    → (q k : ℕ) (other : Message) → message_of (with_place messages p number o) q k ≡ Some other → IsMessageOn b.logs (length b.accounts) other
known-with_place b messages p number o listed inside known all q k other e =
    elim (cases_eq q p) as (λ _. IsMessageOn b.logs (length b.accounts) other) [
      | inl same ↦ elim (cases_eq k number) as (λ _. IsMessageOn b.logs (length b.accounts) other) [
        | inl last ↦
            let new : message_of (with_place messages p number o) p number ≡ o = message_of-here messages p number o listed inside in
            let there : message_of (with_place messages p number o) p number ≡ Some other =
            ap (λ (i : ℕ). message_of (with_place messages p number o) i number) (sym same)
            ∙ (ap (λ (i : ℕ). message_of (with_place messages p number o) q i) (sym last) ∙ e) in
            known other (sym new ∙ there)
        | inr apart ↦ all q k other (sym (message_of-place messages p number q k o listed (λ _. apart)) ∙ e)
      ]
      | inr apart ↦ all q k other (sym (message_of-place messages p number q k o listed (λ same. absurd (apart same))) ∙ e)
    ]

pub IsProgress-stored : (b : LogTerms) (counts : List ℕ) (senders : List SenderState) (balances : List ℕ) (p number : ℕ) (o : Option Message) (new : SenderState)
    → IsProgress b counts senders balances → p < b.logs → number < MESSAGES_MAX → get_or counts p 0 ≤ number → ((m : Message) → o ≡ Some m → IsMessageOn b.logs (length b.accounts) m)
    → IsStored (sender_of senders p) number o new → IsProgress b counts (set senders p new) balances
IsProgress-stored b counts senders balances p number o new is process within after known stored =
    let messages : List MessageList = messages_of senders in
    let inside_senders : p < length senders = omega (arith, is.sized, process) in
    let listed : p < length messages = omega (arith, inside_senders, length-messages_of senders) in
    let inside : number < length (sender_of senders p).messages = omega (arith, (is.credits p process).messages, within) in
    let same = messages_of-stored senders p number o new stored in
    record {
      book = is.book;
      counted = is.counted;
      sized = length-set senders p new ∙ is.sized;
      credits = λ q q_in. elim (cases_eq q p) as (λ _. IsSender (length b.accounts) (get_or counts q 0) (sender_of (set senders p new) q)) [
        | inl e ↦ subst (λ (q : ℕ). IsSender (length b.accounts) (get_or counts q 0) (sender_of (set senders p new) q)) (sym e)
            (subst (IsSender (length b.accounts) (get_or counts p 0)) (sym (get_or-set_same senders p new no_sender inside_senders))
            (IsSender-stored (length b.accounts) (get_or counts p 0) (sender_of senders p) number o new (is.credits p process) after inside stored))
        | inr apart ↦ subst (IsSender (length b.accounts) (get_or counts q 0)) (sym (get_or-set_other senders p q new no_sender apart)) (is.credits q q_in)
      ];
      known = λ q k other e. known-with_place b messages p number o listed (omega (arith, inside, ap (λ (l : MessageList). length l) (list_of-messages_of senders p))) known is.known q k other
          (ap (λ (l : List MessageList). message_of l q k) (sym same) ∙ e);
      reached = subst (λ (l : List MessageList). ∥ Reached b l counts ∥₁) (sym same)
          (∥∥₁_map is.reached (λ r. Reached-with_place b messages counts p number o listed process after r));
      balanced = is.balanced;
      balance = λ a a_in.
          let credits = ap (λ (l : List MessageList). sum_of_first (message_credit a) l counts) same ∙ sum_of_first-with_place (message_credit a) messages counts p number o listed after in
          let debits = ap (λ (l : List MessageList). sum_of_first (message_debit a) l counts) same ∙ sum_of_first-with_place (message_debit a) messages counts p number o listed after in
          omega (arith, credits, debits, is.balance a a_in);
      total = is.total;
    }

-- the same of a sender that has more room alone
pub IsProgress-roomier : (b : LogTerms) (counts : List ℕ) (senders : List SenderState) (balances : List ℕ) (p : ℕ) (new : SenderState)
    → IsProgress b counts senders balances → p < b.logs → new.messages ≡ (sender_of senders p).messages → MakesRoom [] (sender_of senders p) new
    → IsProgress b counts (set senders p new) balances
IsProgress-roomier b counts senders balances p new is process messages makes =
    let same = messages_of-same senders p new messages in
    record {
      book = is.book;
      counted = is.counted;
      sized = length-set senders p new ∙ is.sized;
      credits = λ q q_in. elim (cases_eq q p) as (λ _. IsSender (length b.accounts) (get_or counts q 0) (sender_of (set senders p new) q)) [
        | inl e ↦ subst (λ (q : ℕ). IsSender (length b.accounts) (get_or counts q 0) (sender_of (set senders p new) q)) (sym e)
            (subst (IsSender (length b.accounts) (get_or counts p 0)) (sym (get_or-set_same senders p new no_sender (omega (arith, is.sized, process))))
            (IsSender-roomier (length b.accounts) (get_or counts p 0) (sender_of senders p) new (is.credits p process) messages makes))
        | inr apart ↦ subst (IsSender (length b.accounts) (get_or counts q 0)) (sym (get_or-set_other senders p q new no_sender apart)) (is.credits q q_in)
      ];
      known = λ q k other e. is.known q k other (ap (λ (l : List MessageList). message_of l q k) (sym same) ∙ e);
      reached = subst (λ (l : List MessageList). ∥ Reached b l counts ∥₁) (sym same) is.reached;
      balanced = is.balanced;
      balance = λ a a_in. subst (λ (l : List MessageList). get_or balances a 0 + went l counts a ≡ came b l counts a) (sym same) (is.balance a a_in);
      total = is.total;
    }

-- no message is there and not there
pub differ : (m : Message) → None ≡ Some m → ⊥
differ m e = cc

-- a message that is there is of a process
pub delivered-process : (messages : List MessageList) (p number : ℕ) (m : Message) → message_of messages p number ≡ Some m → p < length messages
delivered-process messages p number m there =
    elim (cases_lt p (length messages)) as (λ _. p < length messages) [
      | inl inside ↦ inside
      | inr past ↦
          let none : message_of messages p number ≡ None = ap (λ (l : MessageList). message_at l number) (get_or-eq_default messages [] past) in
          absurd (differ m (sym none ∙ there))
    ]

alone : (q p : ℕ) → Some q ≡ Some p → q ≡ p
alone q p e = cc

-- a message of another owner takes nothing
message_debit-other : (b : LogTerms) (messages : List MessageList) (p q account number : ℕ) → (account_on_logs b account).log ≡ Some p → q ≢ p
    → IsCounted b messages q number → message_debit account (message_of messages q number) ≡ 0
message_debit-other b messages p q account number owner apart counted =
    ap (message_debit account) counted.delivered ∙ nothing counted.message counted.owner where
      nothing : (m : Message) → (account_on_logs b m.from).log ≡ Some q → message_debit account (Some m) ≡ 0
      nothing m log = elim (cases_eq m.from account) as (λ _. message_debit account (Some m) ≡ 0) [
        | inl same ↦ absurd (apart (alone q p (sym log ∙ (ap (λ (a : ℕ). (account_on_logs b a).log) same ∙ owner))))
        | inr other ↦ grind (arith, nat_tests, other)
      ]

-- at the counts and at `deps` the same went from an account with one owner, if `deps` counts all of that owner's messages
pub went-deps : (b : LogTerms) (messages : List MessageList) (counts deps : List ℕ) (p account : ℕ) → length messages ≡ b.logs
    → Reached b messages counts → (account_on_logs b account).log ≡ Some p → get_or deps p 0 ≡ get_or counts p 0 → Covers counts deps
    → went messages deps account ≡ went messages counts account
went-deps b messages counts deps p account sized reached owner own covered =
    sum_of_first-same (message_debit account) messages deps counts (λ q inside.
    elim (cases_eq q p) as (λ _. part (message_debit account) messages deps q ≡ part (message_debit account) messages counts q) [
      | inl same ↦ subst (λ (q : ℕ). part (message_debit account) messages deps q ≡ part (message_debit account) messages counts q) (sym same)
          (ap (λ k. sum_by (message_debit account) (take k (list_of messages p))) own)
      | inr apart ↦
          let less = covered q (omega (arith, inside, sized, length-Reached b messages counts reached)) in
          sum_by-take_none (message_debit account) (list_of messages q) (get_or deps q 0) refl
          (λ k below. message_debit-other b messages p q account k owner apart (IsCounted-Reached b messages counts reached q k (omega (arith, below, less))))
          ∙ sym (sum_by-take_none (message_debit account) (list_of messages q) (get_or counts q 0) refl
          (λ k below. message_debit-other b messages p q account k owner apart (IsCounted-Reached b messages counts reached q k below)))
    ])

-- no more came by `deps` than by the counts
credits-deps : (b : LogTerms) (messages : List MessageList) (counts : List ℕ) (p account : ℕ) (m : Message) → length messages ≡ length counts
    → IsValid b messages counts p m → sum_of_first (message_credit account) messages m.deps ≤ sum_of_first (message_credit account) messages counts
credits-deps b messages counts p account m sized valid =
    sum_of_first-le (message_credit account) messages m.deps counts refl (λ q inside. valid.covered q (omega (arith, inside, sized)))

-- the balance at the counts covers the amount of a valid message
pub covered-valid : (b : LogTerms) (counts : List ℕ) (senders : List SenderState) (balances : List ℕ) (p : ℕ) (m : Message)
    → IsProgress b counts senders balances → IsValid b (messages_of senders) counts p m → amount_of m.targets ≤ get_or balances m.from 0
covered-valid b counts senders balances p m is valid =
    let messages : List MessageList = messages_of senders in
    let sized : length messages ≡ b.logs = length-messages_of senders ∙ is.sized in
    let known = is.known p (get_or counts p 0) m valid.delivered in
    ∥∥₁_elim is.reached le_prop (λ r. omega (
      arith,
      covers-from_balance_at b messages m.deps m.from (amount_of m.targets) valid.balance,
      went-deps b messages counts m.deps p m.from sized r valid.owner valid.own valid.covered,
      credits-deps b messages counts p m.from m (omega (arith, sized, is.counted)) valid,
      is.balance m.from known.source,
    ))

-- where a valid message stands
pub record Stands (b : LogTerms) (counts : List ℕ) (senders : List SenderState) (p : ℕ) (m : Message) : Type 0 where
  pub process : p < b.logs
  pub sender : p < length senders
  pub number : get_or counts p 0 < length (sender_of senders p).messages
  pub message : message_at (sender_of senders p).messages (get_or counts p 0) ≡ Some m
  pub known : IsMessageOn b.logs (length b.accounts) m

pub Stands-valid : (b : LogTerms) (counts : List ℕ) (senders : List SenderState) (balances : List ℕ) (p : ℕ) (m : Message)
    → IsProgress b counts senders balances → IsValid b (messages_of senders) counts p m → Stands b counts senders p m
Stands-valid b counts senders balances p m is valid =
    let messages : List MessageList = messages_of senders in
    let listed = delivered-process messages p (get_or counts p 0) m valid.delivered in
    let here : message_at (sender_of senders p).messages (get_or counts p 0) ≡ Some m =
    ap (λ (l : MessageList). message_at l (get_or counts p 0)) (sym (list_of-messages_of senders p)) ∙ valid.delivered in
    record {
      process = omega (arith, listed, length-messages_of senders, is.sized);
      sender = omega (arith, listed, length-messages_of senders);
      number = within-there (sender_of senders p).messages (get_or counts p 0) (ap is_some here);
      message = here;
      known = is.known p (get_or counts p 0) m valid.delivered;
    }

pub IsProgress-one_more_of : (b : LogTerms) (counts : List ℕ) (senders : List SenderState) (balances : List ℕ) (p : ℕ) (m : Message)
    → IsProgress b counts senders balances → IsValid b (messages_of senders) counts p m
    → IsProgress b (one_more_of counts p) (set senders p (message_counted (sender_of senders p) (get_or counts p 0) m.targets)) (moved balances m.from m.targets)
IsProgress-one_more_of b counts senders balances p m is valid =
    let messages : List MessageList = messages_of senders in
    let number : ℕ = get_or counts p 0 in
    let new : SenderState = message_counted (sender_of senders p) number m.targets in
    let stands = Stands-valid b counts senders balances p m is valid in
    let same = messages_of-message_counted senders p number m.targets in
    let counted : p < length counts = omega (arith, stands.process, is.counted) in
    let listed : p < length messages = omega (arith, stands.sender, length-messages_of senders) in
    let from_in : m.from < length balances = omega (arith, stands.known.source, is.balanced) in
    let to_in : AreTargetsOn (length balances) m.targets = subst (λ (n : ℕ). AreTargetsOn n m.targets) (sym is.balanced) stands.known.targets in
    let covered = covered-valid b counts senders balances p m is valid in
    record {
      book = is.book;
      counted = length-set counts p (number + 1) ∙ is.counted;
      sized = length-set senders p new ∙ is.sized;
      credits = λ q q_in. elim (cases_eq q p) as (λ _. IsSender (length b.accounts) (get_or (one_more_of counts p) q 0) (sender_of (set senders p new) q)) [
        | inl e ↦ subst (λ (q : ℕ). IsSender (length b.accounts) (get_or (one_more_of counts p) q 0) (sender_of (set senders p new) q)) (sym e)
            (subst (IsSender (length b.accounts) (get_or (one_more_of counts p) p 0)) (sym (get_or-set_same senders p new no_sender stands.sender))
            (subst (λ (n : ℕ). IsSender (length b.accounts) n new) (sym (get_or-set_same counts p (number + 1) 0 counted))
            (IsSender-message_counted (length b.accounts) number (sender_of senders p) m (is.credits p stands.process) stands.number stands.message stands.known.targets stands.known.few)))
        | inr apart ↦
            subst (λ (n : ℕ). IsSender (length b.accounts) n (sender_of (set senders p new) q)) (sym (get_or-set_other counts p q (number + 1) 0 apart))
            (subst (IsSender (length b.accounts) (get_or counts q 0)) (sym (get_or-set_other senders p q new no_sender apart)) (is.credits q q_in))
      ];
      known = λ q k other e. is.known q k other (ap (λ (l : List MessageList). message_of l q k) (sym same) ∙ e);
      reached = subst (λ (l : List MessageList). ∥ Reached b l (one_more_of counts p) ∥₁) (sym same) (∥∥₁_map is.reached (λ r. raise counts p m r valid));
      balanced = length-moved balances m.from m.targets ∙ is.balanced;
      balance = λ a a_in.
          let credits = ap (λ (l : List MessageList). sum_of_first (message_credit a) l (one_more_of counts p)) same
          ∙ (sum_of_first-one_more_of (message_credit a) messages counts p refl listed counted ∙ ap (λ x. sum_of_first (message_credit a) messages counts + message_credit a x) valid.delivered) in
          let debits = ap (λ (l : List MessageList). sum_of_first (message_debit a) l (one_more_of counts p)) same
          ∙ (sum_of_first-one_more_of (message_debit a) messages counts p refl listed counted ∙ ap (λ x. sum_of_first (message_debit a) messages counts + message_debit a x) valid.delivered) in
          omega (arith, credits, debits, is.balance a a_in, get_or-moved balances m.from m.targets a from_in to_in covered);
      total = sum-moved balances m.from m.targets from_in to_in covered ∙ is.total;
    }

-- the same of the values that a validation computes
pub IsProgress-raised_to : (b : LogTerms) (counts : List ℕ) (senders : List SenderState) (balances : List ℕ) (p : ℕ) (m : Message)
    → IsProgress b counts senders balances → IsValid b (messages_of senders) counts p m
    → (new : SenderState) (counts_new balances_new : List ℕ) → new ≡ message_counted (sender_of senders p) (get_or counts p 0) m.targets
    → counts_new ≡ one_more_of counts p → balances_new ≡ moved balances m.from m.targets → IsProgress b counts_new (set senders p new) balances_new
IsProgress-raised_to b counts senders balances p m is valid new counts_new balances_new new_is counts_is balances_is =
    subst (λ (s : SenderState). IsProgress b counts_new (set senders p s) balances_new) (sym new_is)
    (subst (λ (l : List ℕ). IsProgress b l (set senders p (message_counted (sender_of senders p) (get_or counts p 0) m.targets)) balances_new) (sym counts_is)
    (subst (λ (l : List ℕ). IsProgress b (one_more_of counts p) (set senders p (message_counted (sender_of senders p) (get_or counts p 0) m.targets)) l) (sym balances_is)
    (IsProgress-one_more_of b counts senders balances p m is valid)))

-- the credits that are added
pub message_counted-same : (sender read : SenderState) (number number_m : ℕ) (targets targets_m : List TargetPair) → read ≡ sender → number ≡ number_m
    → targets ≡ targets_m → message_counted read number targets ≡ message_counted sender number_m targets_m
message_counted-same sender read number number_m targets targets_m read_is number_is targets_is =
    ap (λ s. message_counted s number targets) read_is
    ∙ (ap (λ n. message_counted sender n targets) number_is ∙ ap (λ (l : List TargetPair). message_counted sender number_m l) targets_is)

-- the balances that are written
pub moved-same : (balances : List ℕ) (from from_m : ℕ) (targets targets_m : List TargetPair) (was : ℕ) → from ≡ from_m → targets ≡ targets_m
    → was ≡ get_or balances from 0 → credited (set balances from (was - amount_of targets)) targets ≡ moved balances from_m targets_m
moved-same balances from from_m targets targets_m was from_is targets_is was_is =
    ap (λ n. credited (set balances from (n - amount_of targets)) targets) was_is
    ∙ (ap (λ a. moved balances a targets) from_is ∙ ap (λ (l : List TargetPair). moved balances from_m l) targets_is)

-- one message less is left
pub left-one_more_of : (counts : List ℕ) (p : ℕ) → p < length counts → get_or counts p 0 < MESSAGES_MAX → left (one_more_of counts p) + 1 ≡ left counts
left-one_more_of counts p counted room =
    omega (arith, room, sum_by-set (λ n. MESSAGES_MAX - n) counts p (get_or counts p 0 + 1) 0 counted)
