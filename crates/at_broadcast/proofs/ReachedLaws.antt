-- Counts that are reached by raising, and why there is one end of it.
use Rattle.std.proofs.Common.{◌≡◌, ℕ, zero, suc, ◌+◌, ◌<◌, ◌≤◌, List, [], ◌∷◌, length, get_or, replicate, None, Some, refl, ap, sym, subst, ◌∙◌, inl, inr, arith, length-set, get_or-set_other}
use Rattle.at_broadcast.proofs.Prelude.{cases_eq, cases_lt, length-replicate, LogTerms, account_on_logs, Message, MessageList, message_of, IsValid, Reached, one_more_of, zeros, raise}

pub length-Reached : (b : LogTerms) (messages : List MessageList) (counts : List ℕ) → Reached b messages counts → length counts ≡ b.logs
length-Reached b messages _ zeros = length-replicate b.logs 0
length-Reached b messages _ (raise counts p m before valid) = length-set counts p (get_or counts p 0 + 1) ∙ length-Reached b messages counts before

-- zeros count nothing
pub get_or-zeros : (n p : ℕ) → get_or {A = ℕ} (replicate n 0) p 0 ≡ 0
get_or-zeros zero p = refl
get_or-zeros (suc n) zero = refl
get_or-zeros (suc n) (suc p) = get_or-zeros n p

-- raising an entry leaves it where it was or one above
pub one_more_of-le : (counts : List ℕ) (p : ℕ) → get_or (one_more_of counts p) p 0 ≤ get_or counts p 0 + 1
one_more_of-le [] p = omega arith
one_more_of-le (c ∷ counts) zero = omega arith
one_more_of-le (c ∷ counts) (suc p) = one_more_of-le counts p

-- and no other lower
pub one_more_of-ge : (counts : List ℕ) (p k : ℕ) → get_or counts k 0 ≤ get_or (one_more_of counts p) k 0
one_more_of-ge [] p k = omega arith
one_more_of-ge (c ∷ counts) zero zero = omega arith
one_more_of-ge (c ∷ counts) zero (suc k) = omega arith
one_more_of-ge (c ∷ counts) (suc p) zero = omega arith
one_more_of-ge (c ∷ counts) (suc p) (suc k) = one_more_of-ge counts p k

-- a counted message: it was delivered, and its log debits its source
pub record IsCounted (b : LogTerms) (messages : List MessageList) (p number : ℕ) : Type 0 where
  pub message : Message
  pub delivered : message_of messages p number ≡ Some message
  pub owner : (account_on_logs b message.from).log ≡ Some p

pub IsCounted-Reached : (b : LogTerms) (messages : List MessageList) (counts : List ℕ) → Reached b messages counts
    → (p number : ℕ) → number < get_or counts p 0 → IsCounted b messages p number
IsCounted-Reached b messages _ zeros p number below = absurd (omega (arith, get_or-zeros b.logs p))
IsCounted-Reached b messages _ (raise counts p m before valid) q number below =
    elim (cases_eq q p) as (λ _. IsCounted b messages q number) [
      | inl same ↦
          elim (cases_eq number (get_or counts p 0)) as (λ _. IsCounted b messages q number) [
            | inl last ↦ record {
              message = m;
              delivered = ap (λ (i : ℕ). message_of messages i number) same ∙ (ap (λ (i : ℕ). message_of messages p i) last ∙ valid.delivered);
              owner = valid.owner ∙ ap (λ (i : ℕ). Some i) (sym same);
            }
            | inr apart ↦
                let here : get_or (one_more_of counts p) q 0 ≡ get_or (one_more_of counts p) p 0 = ap (λ (i : ℕ). get_or (one_more_of counts p) i 0) same in
                let was : get_or counts q 0 ≡ get_or counts p 0 = ap (λ (i : ℕ). get_or counts i 0) same in
                IsCounted-Reached b messages counts before q number (omega (arith, one_more_of-le counts p, here, was, apart, below))
          ]
      | inr apart ↦
          let same = get_or-set_other counts p q (get_or counts p 0 + 1) 0 apart in
          IsCounted-Reached b messages counts before q number (omega (arith, same, below))
    ]

-- what is delivered isn't counted before it
pub after-Reached : (b : LogTerms) (messages : List MessageList) (counts : List ℕ) → Reached b messages counts
    → (p number : ℕ) → message_of messages p number ≡ None → get_or counts p 0 ≤ number
after-Reached b messages counts reached p number none =
    elim (cases_lt number (get_or counts p 0)) as (λ _. get_or counts p 0 ≤ number) [
      | inl below ↦ absurd (missing (IsCounted-Reached b messages counts reached p number below))
      | inr above ↦ above
    ] where
      missing : IsCounted b messages p number → ⊥
      missing c = cc (none, c.delivered)

-- every reached list of counts is at most one at which no next message is valid: so there is one alone
pub below-Reached : (b : LogTerms) (messages : List MessageList) (counts stuck : List ℕ) → Reached b messages counts
    → length stuck ≡ b.logs → ((p : ℕ) (m : Message) → ¬ IsValid b messages stuck p m) → (p : ℕ) → get_or counts p 0 ≤ get_or stuck p 0
below-Reached b messages _ stuck zeros sized none q = omega (arith, get_or-zeros b.logs q)
below-Reached b messages _ stuck (raise counts p m before valid) sized none q =
    elim (cases_eq q p) as (λ _. get_or (one_more_of counts p) q 0 ≤ get_or stuck q 0) [
      | inl same ↦
          subst (λ (q : ℕ). get_or (one_more_of counts p) q 0 ≤ get_or stuck q 0) (sym same)
          (elim (cases_lt (get_or counts p 0) (get_or stuck p 0)) as (λ _. get_or (one_more_of counts p) p 0 ≤ get_or stuck p 0) [
            | inl more ↦ omega (arith, one_more_of-le counts p)
            | inr most ↦
                let level : get_or counts p 0 ≡ get_or stuck p 0 = omega (arith, below-Reached b messages counts stuck before sized none p) in
                absurd (none p m (record {
                  delivered = ap (λ (i : ℕ). message_of messages p i) (sym level) ∙ valid.delivered;
                  owner = valid.owner;
                  own = valid.own ∙ level;
                  covered = λ i within. omega (
                    arith,
                    valid.covered i (omega (arith, within, sized, length-Reached b messages counts before)),
                    below-Reached b messages counts stuck before sized none i,
                  );
                  balance = valid.balance;
                }))
          ])
      | inr apart ↦
          omega (arith, get_or-set_other counts p q (get_or counts p 0 + 1) 0 apart, below-Reached b messages counts stuck before sized none q)
    ]
