-- What the receipts of a coherent closing name is found in the positions.
use Rattle.std.proofs.Common.{◌≡◌, ℕ, ◌<◌, ◌&&◌, true, List, [], length, get_or, take, refl, sym, ap, subst, ◌∙◌, arith}
use Rattle.at_journal.proofs.Prelude.{eq-eqb, ltb-true, get_or_default, take_all, list_any_at, Decision, BookTerms, TargetPair, first_account, IsInitial, publication_at, is_round, prefix_of, no_publication, firsts, rounds, Entry, Publication, HasRounds-Coherent, AreFirsts-journal_order, IsCoherentEntry-journal_order, IsInitial-journal_order, round_entry, ClosingTerms, receipts_of, Coherent, journal_order, IsPlaced, read, not_owner, full, short, done, round, is_success, receipt_at, round_position, At, Receipt, own_position-at, round_position-at, first_account-payout, HasOwnPositions, HasStarts, HasRoundPositions}
use Rattle.at_journal.proofs.KeepLaws.{no_receipt}

-- a round with a record is one of the rounds
round-below : (b : BookTerms) (c : ClosingTerms) (m a r : ℕ) (d : Decision) (targets : List TargetPair) → Coherent b c
    → m < length (journal_order c) → (publication_at (journal_order c) m).entry ≡ Entry.Round a r d targets → r < rounds a (journal_order c)
round-below b c m a r d targets coherent within is =
    let order = journal_order c in
    let found = (AreFirsts-journal_order b c (HasRounds-Coherent b c coherent)).has m a r d targets within is in
    let has = list_any_at (λ (y : Publication). is_round a r y.entry) (firsts order) found.0 no_publication found.1 found.2 in
    let initial : IsInitial a order =
    subst (IsInitial a) (take_all (length order) order (omega arith)) (IsInitial-journal_order b c (length order) (HasRounds-Coherent b c coherent) (omega arith) a) in
    ltb-true r (rounds a order) (sym (initial.has r) ∙ has)

module _ (b : BookTerms) (c : ClosingTerms) (p : ℕ) (own : List ℕ) (starts : List (List ℕ)) (coherent : Coherent b c)
    (owns : HasOwnPositions p (journal_order c) own) (rounds_at : HasRoundPositions (length b.accounts) (journal_order c) (journal_order c) starts) where
  -- a receipt at neither a record nor a round names none
  HasStarts-still : (r : Receipt) → ((number : ℕ) → r.at ≡ At.Own number → ⊥) → ((number place : ℕ) → r.at ≡ At.Round number place → ⊥)
      → HasStarts p (journal_order c) own starts r
  HasStarts-still r no_own no_round = record {
    own_at = λ number is. absurd (no_own number is);
    own_within = λ number is. absurd (no_own number is);
    account_in = λ number place is moved. absurd (no_round number place is);
    round_at = λ number place is moved. absurd (no_round number place is);
    round_within = λ number place is moved. absurd (no_round number place is);
  }

  HasStarts-placed : (earlier : List Receipt) (r : Receipt) → IsPlaced b p (journal_order c) earlier r → HasStarts p (journal_order c) own starts r
  HasStarts-placed earlier r (read account balance call reply cut) =
      HasStarts-still r (λ number is. cc (cut.at, is)) (λ number place is. cc (cut.at, is))
  HasStarts-placed earlier r (not_owner source targets call owner reply at) =
      HasStarts-still r (λ number is. cc (at, is)) (λ number place is. cc (at, is))
  HasStarts-placed earlier r (full source targets call owner room reply at) =
      HasStarts-still r (λ number is. cc (at, is)) (λ number place is. cc (at, is))
  HasStarts-placed earlier r (short source balance targets may single reply cut less) =
      HasStarts-still r (λ number is. cc (cut.at, is)) (λ number place is. cc (cut.at, is))
  HasStarts-placed earlier r (done source targets may single reply so) =
      let order = journal_order c in
      let same : (number : ℕ) → r.at ≡ At.Own number → so.number ≡ number = λ number is. cc (so.at, is) in
      record {
        own_at = λ number is.
            let inside : number < length own = omega (arith, same number is, so.within, owns.counted) in (inside, owns.own number inside);
        own_within = λ number is.
            (own_position-at p number order (omega (arith, same number is, so.within))).within;
        account_in = λ number place is moved. absurd (cc (so.at, is));
        round_at = λ number place is moved. absurd (cc (so.at, is));
        round_within = λ number place is moved. absurd (cc (so.at, is));
      }
  HasStarts-placed earlier r (round source targets may shared so) =
      let order = journal_order c in
      let x : Publication = publication_at order so.position in
      let account = first_account r.call in
      let account_is : account ≡ source = first_account-payout source targets r.call may.call in
      let same : (number place : ℕ) → r.at ≡ At.Round number place → so.round ≡ number = λ number place is. cc (so.at, is) in
      let law = round_entry b c x.process (prefix_of x.view order) x.entry source so.round so.decision targets (IsCoherentEntry-journal_order b c so.position coherent so.within) so.entry in
      let known : account < length b.accounts = omega (arith, account_is, law.0.account_in) in
      let below : so.round < rounds account order =
      subst (λ a. so.round < rounds a order) (sym account_is) (round-below b c so.position source so.round so.decision targets coherent so.within so.entry) in
      let there : is_round account so.round x.entry ≡ true =
      ap (is_round account so.round) so.entry ∙ (λ t. eq-eqb source account (sym account_is) t && eq-eqb so.round so.round refl t) in
      record {
        own_at = λ number is. absurd (cc (so.at, is));
        own_within = λ number is. absurd (cc (so.at, is));
        account_in = λ number place is moved. omega (arith, known, rounds_at.sized);
        round_at = λ number place is moved.
            let inside : number < length (get_or starts account []) = omega (arith, rounds_at.counted account known, same number place is, below) in
            (inside, rounds_at.first account number known inside);
        round_within = λ number place is moved.
            subst (λ k. round_position account k order < length order) (same number place is) (round_position-at account so.round order so.position so.within there).within;
      }

  pub HasStarts-receipt : (i : ℕ) → p < b.processes → i < length (receipts_of c p) → HasStarts p (journal_order c) own starts (receipt_at (receipts_of c p) i)
  HasStarts-receipt i known within = HasStarts-placed (take i (receipts_of c p)) (receipt_at (receipts_of c p) i) ((coherent.told p known).placed i within)

-- a receipt that was read
pub receipt_at-is : (c : ClosingTerms) (p i : ℕ) (receipts : List Receipt) (r : Receipt) → receipts ≡ receipts_of c p → i < length (receipts_of c p)
    → r ≡ get_or receipts i r → receipt_at (receipts_of c p) i ≡ r
receipt_at-is c p i receipts r are within is =
    get_or_default (receipts_of c p) i no_receipt r within ∙ (ap (λ rs. get_or rs i r) (sym are) ∙ sym is)

-- what is looked up for a success is a position
pub first_of_round-small : (p : ℕ) (list : List Publication) (own : List ℕ) (starts : List (List ℕ)) (r : Receipt) (number place account value : ℕ)
    → HasStarts p list own starts r → r.at ≡ At.Round number place → is_success r.reply ≡ true → account ≡ first_account r.call
    → value ≡ get_or (get_or starts account []) number 0 → value < length list
first_of_round-small p list own starts r number place account value so at moved account_is is =
    omega (
      arith,
      is,
      ap (λ a. get_or (get_or starts a []) number 0) account_is,
      (so.round_at number place at moved).1,
      so.round_within number place at moved,
    )
