-- What is told is a legal run, and in the end all that is validated.
use Rattle.std.proofs.Common.{◌≡◌, ℕ, ◌+◌, ◌<◌, ◌≤◌, List, length, get_or, replicate, take, sum_by, cond, ◌⊎◌, Option, None, Some, ◌↔◌, refl, ap, sym, subst, ◌∙◌, inl, inr, arith, get_or-set_same, get_or-set_other}
use Rattle.at_logs.proofs.Prelude.{cases_eq, cases_lt, eq-eqb, le_prop, list_of, ℕ_set, ∥∥₁_elim, ∥∥₁_map, nat_tests, same_number_lists, same_Some, Covers, LogTerms, account_on_logs, amount_of, Message, MessageList, delivered-process, length-Reached, below-Reached, get_or-zeros, message_credit, message_debit, message_of, one_more_of, one_more_of-ge, one_more_of-le, raise, went-deps, zeros, IsNode, IsReading, IsValid, NodeState, Reached, IsNextWithin, ReadingState, TellsLegally, balance_at-covers, came, covers-from_balance_at, part, range-sum, sum_of_first-le, sum_of_first-one_more_of, went}

-- ---- no balance is below zero at counts that are reached

went-zeros : (messages : List MessageList) (n account : ℕ) → went messages (replicate n 0) account ≡ 0
went-zeros messages n account =
    let none : (p : ℕ) → part (message_debit account) messages (replicate n 0) p ≡ 0 = λ p. ap (λ k. sum_first k p) (get_or-zeros n p) in
    let double = range-sum (part (message_debit account) messages (replicate n 0)) (part (message_debit account) messages (replicate n 0)) (part (message_debit account) messages (replicate n 0))
    0 (length messages) (λ p low high. omega (arith, none p)) in
    omega (arith, double)
  where
    sum_first : ℕ → ℕ → ℕ
    sum_first k p = sum_by (message_debit account) (take k (list_of messages p))

-- what a message takes from an account
debit-cases : (account : ℕ) (m : Message) → ((m.from ≡ account) × (message_debit account (Some m) ≡ amount_of m.targets)) ⊎ (message_debit account (Some m) ≡ 0)
debit-cases account m =
    elim (cases_eq m.from account) as (λ _. ((m.from ≡ account) × (message_debit account (Some m) ≡ amount_of m.targets)) ⊎ (message_debit account (Some m) ≡ 0)) [
      | inl same ↦ inl (same, ap (λ t. cond t (amount_of m.targets) 0) (eq-eqb m.from account same))
      | inr other ↦ inr (grind (arith, nat_tests, other))
    ]

pub solvent-Reached : (b : LogTerms) (messages : List MessageList) (counts : List ℕ) → length messages ≡ b.logs → Reached b messages counts → (account : ℕ)
    → went messages counts account ≤ came b messages counts account
solvent-Reached b messages _ sized zeros account = omega (arith, went-zeros messages b.logs account)
solvent-Reached b messages _ sized (raise counts p m before valid) account =
    let long = length-Reached b messages counts before in
    let listed : p < length messages = delivered-process messages p (get_or counts p 0) m valid.delivered in
    let counted : p < length counts = omega (arith, listed, sized, long) in
    let credits = sum_of_first-one_more_of (message_credit account) messages counts p refl listed counted in
    let debits = sum_of_first-one_more_of (message_debit account) messages counts p refl listed counted in
    let taken = ap (message_debit account) valid.delivered in
    let earlier = solvent-Reached b messages counts sized before account in
    elim (debit-cases account m) as (λ _. went messages (one_more_of counts p) account ≤ came b messages (one_more_of counts p) account) [
      | inr nothing ↦ omega (arith, credits, debits, taken, nothing, earlier)
      | inl source ↦
          let at_source : went messages counts m.from + amount_of m.targets ≤ came b messages counts m.from = omega (
            arith,
            covers-from_balance_at b messages m.deps m.from (amount_of m.targets) valid.balance,
            went-deps b messages counts m.deps p m.from sized before valid.owner valid.own valid.covered,
            sum_of_first-le (message_credit m.from) messages m.deps counts refl (λ q inside. valid.covered q (omega (arith, inside, sized, long))),
          ) in
          omega (
            arith,
            credits,
            debits,
            taken,
            source.1,
            subst (λ a. went messages counts a + amount_of m.targets ≤ came b messages counts a) source.0 at_source,
          )
    ]

-- ---- a validated message, whatever else is counted

-- it was delivered, and all that makes it valid but for the counts
record IsValidated (b : LogTerms) (messages : List MessageList) (p number : ℕ) : Type 0 where
  pub message : Message
  pub delivered : message_of messages p number ≡ Some message
  pub owner : (account_on_logs b message.from).log ≡ Some p
  pub own : get_or message.deps p 0 ≡ number
  pub balance : went messages message.deps message.from + amount_of message.targets ≤ came b messages message.deps message.from

IsValidated-Reached : (b : LogTerms) (messages : List MessageList) (counts : List ℕ) → Reached b messages counts
    → (p number : ℕ) → number < get_or counts p 0 → IsValidated b messages p number
IsValidated-Reached b messages _ zeros p number below = absurd (omega (arith, get_or-zeros b.logs p))
IsValidated-Reached b messages _ (raise counts p m before valid) q number below =
    elim (cases_lt number (get_or counts q 0)) as (λ _. IsValidated b messages q number) [
      | inl earlier ↦ IsValidated-Reached b messages counts before q number earlier
      | inr last ↦
          elim (cases_eq q p) as (λ _. IsValidated b messages q number) [
            | inr apart ↦ absurd (omega (arith, last, below, get_or-set_other counts p q (get_or counts p 0 + 1) 0 apart))
            | inl same ↦
                let here : get_or (one_more_of counts p) q 0 ≡ get_or (one_more_of counts p) p 0 = ap (λ (i : ℕ). get_or (one_more_of counts p) i 0) same in
                let was : get_or counts q 0 ≡ get_or counts p 0 = ap (λ (i : ℕ). get_or counts i 0) same in
                let at : get_or counts p 0 ≡ number = omega (arith, last, below, here, was, one_more_of-le counts p) in
                subst (λ i. IsValidated b messages i number) (sym same) (subst (IsValidated b messages p) at (record {
                  message = m;
                  delivered = valid.delivered;
                  owner = valid.owner;
                  own = valid.own;
                  balance = covers-from_balance_at b messages m.deps m.from (amount_of m.targets) valid.balance;
                }))
          ]
    ]

-- one log or none is told by a test
one_log : (o : Option ℕ) (p : ℕ) → ∥ o ≡ Some p ∥₁ → o ≡ Some p
one_log None p is = absurd (∥∥₁_elim is (λ x y. absurd x) (λ e. cc))
one_log (Some q) p is = ap (λ (i : ℕ). Some i) (∥∥₁_elim is (ℕ_set q p) (λ e. same_Some q p e))

-- the same of a message that is known
record ValidatedAs (b : LogTerms) (messages : List MessageList) (p number : ℕ) (m : Message) : Type 0 where
  pub owner : (account_on_logs b m.from).log ≡ Some p
  pub own : get_or m.deps p 0 ≡ number
  pub balance : went messages m.deps m.from + amount_of m.targets ≤ came b messages m.deps m.from

-- a validated message is valid at counts that stop before it and have what it rests on
pub IsValid-told : (n : NodeState) (told : List ℕ) (p : ℕ) (m : Message) → IsNode n → get_or told p 0 < get_or n.validated p 0
    → message_of n.messages p (get_or told p 0) ≡ Some m → Covers told m.deps → IsValid n.book n.messages told p m
IsValid-told n told p m node below there covered = record {
  delivered = there;
  owner = one_log (account_on_logs n.book m.from).log p (∥∥₁_map node.steady.reached (λ r. (is r).owner));
  own = ∥∥₁_elim node.steady.reached (ℕ_set _ _) (λ r. (is r).own);
  covered = covered;
  balance = balance_at-covers n.book n.messages m.deps m.from (amount_of m.targets) (∥∥₁_elim node.steady.reached le_prop (λ r. (is r).balance));
} where
  -- what is known of this very message
  is : Reached n.book n.messages n.validated → ValidatedAs n.book n.messages p (get_or told p 0) m
  is r =
      let v = IsValidated-Reached n.book n.messages n.validated r p (get_or told p 0) below in
      subst (ValidatedAs n.book n.messages p (get_or told p 0)) (same_Some v.message m (sym v.delivered ∙ there)) (record { owner = v.owner; own = v.own; balance = v.balance })

-- ---- what was told

pub told-le : (n : NodeState) (told : List ℕ) → IsNode n → ∥ Reached n.book n.messages told ∥₁ → (p : ℕ) → get_or told p 0 ≤ get_or n.validated p 0
told-le n told node reached p = ∥∥₁_elim reached le_prop (λ r. below-Reached n.book n.messages told n.validated r node.steady.counted node.done p)

pub length-told : (n : NodeState) (told : List ℕ) → ∥ Reached n.book n.messages told ∥₁ → length told ≡ n.book.logs
length-told n told reached = ∥∥₁_elim reached (ℕ_set _ _) (λ r. length-Reached n.book n.messages told r)

-- no message is told that isn't validated
pub unvalidated-told : (n : NodeState) (told : List ℕ) (p : ℕ) (m : Message) → IsNode n → ∥ Reached n.book n.messages told ∥₁ → get_or n.validated p 0 ≤ get_or told p 0
    → ¬ IsValid n.book n.messages told p m
unvalidated-told n told p m node reached above valid =
    let level : get_or told p 0 ≡ get_or n.validated p 0 = omega (arith, told-le n told node reached p, above) in
    node.done p m (record {
      delivered = ap (message_of n.messages p) (sym level) ∙ valid.delivered;
      owner = valid.owner;
      own = valid.own ∙ level;
      covered = λ q within. omega (arith, valid.covered q (omega (arith, within, length-told n told reached, node.steady.counted)), told-le n told node reached q);
      balance = valid.balance;
    })

-- where none is left, all was told
pub all-told : (n : NodeState) (told : List ℕ) → IsNode n → ∥ Reached n.book n.messages told ∥₁ → ((p : ℕ) (m : Message) → ¬ IsValid n.book n.messages told p m) → told ≡ n.validated
all-told n told node reached none =
    same_number_lists told n.validated (omega (arith, length-told n told reached, node.steady.counted)) (λ p within.
    omega (
      arith,
      told-le n told node reached p,
      ∥∥₁_elim node.steady.reached le_prop (λ r. below-Reached n.book n.messages n.validated told r (length-told n told reached) none p),
    ))

pub TellsLegally-IsReading : (s : ReadingState) → IsReading s → TellsLegally s
TellsLegally-IsReading s is = record {
  reached = is.told;
  validated = λ p within. told-le s.node s.told is.node is.told p;
  solvent = λ account known. balance_at-covers s.node.book s.node.messages s.told account 0
      (∥∥₁_elim is.told le_prop (λ r. omega (arith, solvent-Reached s.node.book s.node.messages s.told is.node.steady.sized r account)));
}

-- ---- counts that are reached below others

-- what is next within counts is valid where its `deps` are counted
pub IsNextWithin-covered : (n : NodeState) (counts limit : List ℕ) (p : ℕ) (m : Message) → IsNode n → ∥ Reached n.book n.messages counts ∥₁ → Covers n.validated limit → p < n.book.logs
    → get_or counts p 0 < get_or limit p 0 → message_of n.messages p (get_or counts p 0) ≡ Some m → Covers counts m.deps → IsNextWithin n counts limit p
IsNextWithin-covered n counts limit p m node reached within known below there covered = record {
  message = m;
  next = IsValid-told n counts p m node (omega (arith, below, within p (omega (arith, known, node.steady.counted)))) there covered;
  within = below;
}

-- counts that are reached and above no limit stand at most at counts from which nothing is next within it
below-stuck : (b : LogTerms) (messages : List MessageList) (counts stuck limit : List ℕ) → length messages ≡ b.logs → Reached b messages counts → length stuck ≡ b.logs
    → ((p : ℕ) (m : Message) → get_or stuck p 0 < get_or limit p 0 → ¬ IsValid b messages stuck p m) → ((p : ℕ) → get_or counts p 0 ≤ get_or limit p 0)
    → (p : ℕ) → get_or counts p 0 ≤ get_or stuck p 0
below-stuck b messages _ stuck limit listed zeros sized none under q = omega (arith, get_or-zeros b.logs q)
below-stuck b messages _ stuck limit listed (raise counts p m before valid) sized none under q =
    let long = length-Reached b messages counts before in
    let counted : p < length counts = omega (arith, delivered-process messages p (get_or counts p 0) m valid.delivered, listed, long) in
    let lower : (i : ℕ) → get_or counts i 0 ≤ get_or stuck i 0 =
    below-stuck b messages counts stuck limit listed before sized none (λ i. omega (arith, under i, one_more_of-ge counts p i)) in
    elim (cases_eq q p) as (λ _. get_or (one_more_of counts p) q 0 ≤ get_or stuck q 0) [
      | inr apart ↦ omega (arith, get_or-set_other counts p q (get_or counts p 0 + 1) 0 apart, lower q)
      | inl same ↦
          subst (λ (q : ℕ). get_or (one_more_of counts p) q 0 ≤ get_or stuck q 0) (sym same)
          (elim (cases_lt (get_or counts p 0) (get_or stuck p 0)) as (λ _. get_or (one_more_of counts p) p 0 ≤ get_or stuck p 0) [
            | inl more ↦ omega (arith, one_more_of-le counts p, more)
            | inr most ↦
                let level : get_or counts p 0 ≡ get_or stuck p 0 = omega (arith, lower p, most) in
                let raised : get_or (one_more_of counts p) p 0 ≡ get_or counts p 0 + 1 = get_or-set_same counts p (get_or counts p 0 + 1) 0 counted in
                absurd (none p m (omega (arith, under p, raised, level)) (record {
                  delivered = ap (λ (i : ℕ). message_of messages p i) (sym level) ∙ valid.delivered;
                  owner = valid.owner;
                  own = valid.own ∙ level;
                  covered = λ i within. omega (arith, valid.covered i (omega (arith, within, sized, long)), lower i);
                  balance = valid.balance;
                }))
          ])
    ]

-- so they are reached exactly where the counts come to them
pub reached-within : (n : NodeState) (counts limit : List ℕ) → IsNode n → ∥ Reached n.book n.messages counts ∥₁ → length limit ≡ n.book.logs
    → ((p : ℕ) → get_or counts p 0 ≤ get_or limit p 0) → ((p : ℕ) → ¬ IsNextWithin n counts limit p) → Covers counts limit ↔ ∥ Reached n.book n.messages limit ∥₁
reached-within n counts limit node reached sized below none = (comes, is_reached) where
  long : length counts ≡ n.book.logs
  long = length-told n counts reached

  comes : Covers counts limit → ∥ Reached n.book n.messages limit ∥₁
  comes covered =
      subst (λ (l : List ℕ). ∥ Reached n.book n.messages l ∥₁)
      (same_number_lists counts limit (omega (arith, long, sized)) (λ p within. omega (arith, covered p within, below p))) reached

  is_reached : ∥ Reached n.book n.messages limit ∥₁ → Covers counts limit
  is_reached there p within =
      ∥∥₁_elim there le_prop (λ r.
      below-stuck n.book n.messages limit counts limit node.steady.sized r long (λ q m under valid. none q (record { message = m; next = valid; within = under })) (λ q. omega arith) p)
