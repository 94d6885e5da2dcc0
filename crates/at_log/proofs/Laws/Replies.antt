-- What the ledger answers to a pay-out, by the case that applies.
use Rattle.std.proofs.Common.{◌≡◌, ℕ, ◌<◌, ◌==◌, not, ltb, true, false, cond, List, [], ◌∷◌, ap, ◌∙◌}
use Rattle.std.specs.Prelude.{Some}
use Rattle.at_log.proofs.Prelude.{lt-ltb, is_shared, account_of, is_owner, TargetPair, amount_of, first_account, payout_of, LedgerState, Step, after_done, after_short, balance_of, is_full, pay, step, with_asked, Call, Transfer, Read, Pay, Done, Full, NotOwner, Short, is_payout_from}

-- a pay-out has one source and one list of targets
pub same_payout : (x y : ℕ × List TargetPair) → Some x ≡ Some y → x ≡ y
same_payout x y is = cc is

-- a step of a pay-out is that of its source and targets
pub step-payout : (s : LedgerState) (process source : ℕ) (targets : List TargetPair) (call : Call) → payout_of call ≡ Some (source, targets)
    → step s process call ≡ pay s process source targets
step-payout s process source targets (Transfer from to amount) is =
    let parts = same_payout (from, (to, amount) ∷ []) (source, targets) is in
    λ t. pay s process (parts t).0 (parts t).1
step-payout s process source targets (Read account) is = absurd (cc is)
step-payout s process source targets (Pay from amounts) is =
    let parts = same_payout (from, amounts) (source, targets) is in
    λ t. pay s process (parts t).0 (parts t).1

-- a pay-out is from its source
pub is_payout_from-payout : (account source : ℕ) (targets : List TargetPair) (call : Call) → payout_of call ≡ Some (source, targets)
    → is_payout_from account call ≡ (source == account)
is_payout_from-payout account source targets (Transfer from to amount) is =
    let parts = same_payout (from, (to, amount) ∷ []) (source, targets) is in
    λ t. (parts t).0 == account
is_payout_from-payout account source targets (Read asked) is = absurd (cc is)
is_payout_from-payout account source targets (Pay from amounts) is =
    let parts = same_payout (from, amounts) (source, targets) is in
    λ t. (parts t).0 == account

module _ (s : LedgerState) (process source : ℕ) (targets : List TargetPair) where
  pub pay-not_owner : is_owner s.book process source ≡ false → pay s process source targets ≡ record { ledger = s; reply = NotOwner }
  pay-not_owner owner =
      let rest : Step = cond (is_full s process source) (record { ledger = s; reply = Full })
      (cond (ltb (balance_of s source) (amount_of targets)) (record { ledger = after_short s process source; reply = Short })
      (record { ledger = after_done s process source targets; reply = Done })) in
      let refused : Step = record { ledger = s; reply = NotOwner } in
      ap (λ t. cond (not t) refused rest) owner

  pub pay-full : is_owner s.book process source ≡ true → is_full s process source ≡ true
      → pay s process source targets ≡ record { ledger = s; reply = Full }
  pay-full owner full =
      let rest : Step = cond (ltb (balance_of s source) (amount_of targets)) (record { ledger = after_short s process source; reply = Short })
      (record { ledger = after_done s process source targets; reply = Done }) in
      let refused : Step = record { ledger = s; reply = NotOwner } in
      let filled : Step = record { ledger = s; reply = Full } in
      ap (λ t. cond (not t) refused (cond (is_full s process source) filled rest)) owner ∙ ap (λ t. cond t filled rest) full

  pub pay-short : is_owner s.book process source ≡ true → is_full s process source ≡ false → balance_of s source < amount_of targets
      → pay s process source targets ≡ record { ledger = after_short s process source; reply = Short }
  pay-short owner room less =
      let short : Step = record { ledger = after_short s process source; reply = Short } in
      let paid : Step = record { ledger = after_done s process source targets; reply = Done } in
      let refused : Step = record { ledger = s; reply = NotOwner } in
      let filled : Step = record { ledger = s; reply = Full } in
      ap (λ t. cond (not t) refused (cond (is_full s process source) filled (cond (ltb (balance_of s source) (amount_of targets)) short paid))) owner
      ∙ (ap (λ t. cond t filled (cond (ltb (balance_of s source) (amount_of targets)) short paid)) room
      ∙ ap (λ t. cond t short paid) (lt-ltb (balance_of s source) (amount_of targets) less))

  -- on a single account such a refusal changes nothing, and on a shared one it uses a request
  pub after_short-single : is_shared (account_of s.book source) ≡ false → after_short s process source ≡ s
  after_short-single single =
      let one : LedgerState = with_asked s process source in
      ap (λ t. cond t one s) single

  pub after_short-shared : is_shared (account_of s.book source) ≡ true → after_short s process source ≡ with_asked s process source
  after_short-shared shared =
      let one : LedgerState = with_asked s process source in
      ap (λ t. cond t one s) shared

-- the source of a pay-out is the account that it names first
pub first_account-payout : (source : ℕ) (targets : List TargetPair) (call : Call) → payout_of call ≡ Some (source, targets) → first_account call ≡ source
first_account-payout source targets (Transfer from to amount) is = ap (λ (x : ℕ × List TargetPair). x.0) (same_payout (from, (to, amount) ∷ []) (source, targets) is)
first_account-payout source targets (Read account) is = absurd (cc is)
first_account-payout source targets (Pay from amounts) is = ap (λ (x : ℕ × List TargetPair). x.0) (same_payout (from, amounts) (source, targets) is)
