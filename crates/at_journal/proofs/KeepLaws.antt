-- The ledger's state behind some of a closing's lines: what it keeps from one line to the next.
use Rattle.std.proofs.Common.{◌≡◌, ℕ, ◌+◌, ◌*◌, ◌<◌, ◌==◌, ◌&&◌, ◌||◌, false, cond, List, length, get_or, take, ap, ◌∙◌, arith, inl, inr}
use Rattle.at_journal.proofs.Prelude.{cases_eq, eq-eqb, ne_eqb, sum_by_more, is_shared, is_single, BookTerms, account_of, asked_position, is_full, Read, Full, BalancesFollow, ledger, one_if, At, Receipt, ClosingTerms, receipts_of, journal_order, has_no_room, asks_in, is_at_own, is_at_round, is_payout_from, owns_in, receipt_at}

-- behind so many calls of each process, at a prefix of the order: the balances are those of the prefix, and the room used
-- is what the receipts say
pub record Keeps (b : BookTerms) (c : ClosingTerms) (m : ℕ) (done : ℕ → ℕ) (balances sent asked : List ℕ) : Type 0 where
  pub money : BalancesFollow b (take m (journal_order c)) balances
  pub senders : length sent ≡ b.processes
  pub askers : length asked ≡ b.processes * length b.accounts
  pub sent_so : (p : ℕ) → p < b.processes → get_or sent p 0 ≡ owns_in (take (done p) (receipts_of c p))
  pub asked_so : (p a : ℕ) → p < b.processes → a < length b.accounts → get_or asked (asked_position b p a) 0 ≡ asks_in a (take (done p) (receipts_of c p))

-- one process has made so many calls
abbrev pub with_count : (ℕ → ℕ) → ℕ → ℕ → ℕ → ℕ
with_count done process count q = cond (q == process) count (done q)

pub with_count-own : (done : ℕ → ℕ) (process count q : ℕ) → q ≡ process → with_count done process count q ≡ count
with_count-own done process count q same = ap (λ t. cond t count (done q)) (eq-eqb q process same)

pub with_count-other : (done : ℕ → ℕ) (process count q : ℕ) → (q ≡ process → ⊥) → with_count done process count q ≡ done q
with_count-other done process count q apart = ap (λ t. cond t count (done q)) (ne_eqb q process apart)

abbrev pub no_receipt : Receipt
no_receipt = record { call = Read 0; reply = Full; at = At.Previous }

-- one more receipt
owns_in-more : (receipts : List Receipt) (i : ℕ) → i < length receipts
    → owns_in (take (i + 1) receipts) ≡ owns_in (take i receipts) + one_if (is_at_own (receipt_at receipts i).at)
owns_in-more receipts i within = sum_by_more (λ (r : Receipt). one_if (is_at_own r.at)) receipts i no_receipt within

asks_in-more : (account : ℕ) (receipts : List Receipt) (i : ℕ) → i < length receipts
    → asks_in account (take (i + 1) receipts)
    ≡ asks_in account (take i receipts) + one_if (is_at_round (receipt_at receipts i).at && is_payout_from account (receipt_at receipts i).call)
asks_in-more account receipts i within =
    sum_by_more (λ (r : Receipt). one_if (is_at_round r.at && is_payout_from account r.call)) receipts i no_receipt within

-- one more line of a process keeps it
pub Keeps-next : (b : BookTerms) (c : ClosingTerms) (m next : ℕ) (done : ℕ → ℕ) (balances sent asked balances2 sent2 asked2 : List ℕ) (p i : ℕ)
    → Keeps b c m done balances sent asked → done p ≡ i → i < length (receipts_of c p)
    → BalancesFollow b (take next (journal_order c)) balances2 → length sent2 ≡ length sent → length asked2 ≡ length asked
    → ((q : ℕ) → q < b.processes → get_or sent2 q 0 ≡ get_or sent q 0 + one_if ((q == p) && is_at_own (receipt_at (receipts_of c p) i).at))
    → ((q a : ℕ) → q < b.processes → a < length b.accounts → get_or asked2 (asked_position b q a) 0 ≡ get_or asked (asked_position b q a) 0
    + one_if ((q == p) && (is_at_round (receipt_at (receipts_of c p) i).at && is_payout_from a (receipt_at (receipts_of c p) i).call)))
    → Keeps b c next (with_count done p (i + 1)) balances2 sent2 asked2
Keeps-next b c m next done balances sent asked balances2 sent2 asked2 p i keeps here within money senders askers sent_more asked_more = record {
  money = money;
  senders = senders ∙ keeps.senders;
  askers = askers ∙ keeps.askers;
  sent_so = λ q known.
      let r = receipt_at (receipts_of c p) i in
      elim (cases_eq q p) as (λ _. get_or sent2 q 0 ≡ owns_in (take (with_count done p (i + 1) q) (receipts_of c q))) [
        | inl same ↦
            let counted : owns_in (take (with_count done p (i + 1) q) (receipts_of c q)) ≡ owns_in (take (i + 1) (receipts_of c p)) =
            λ t. owns_in (take (with_count-own done p (i + 1) q same t) (receipts_of c (same t))) in
            let before : owns_in (take (done q) (receipts_of c q)) ≡ owns_in (take i (receipts_of c p)) =
            λ t. owns_in (take ((ap done same ∙ here) t) (receipts_of c (same t))) in
            let one : one_if ((q == p) && is_at_own r.at) ≡ one_if (is_at_own r.at) = ap (λ t. one_if (t && is_at_own r.at)) (eq-eqb q p same) in
            omega (arith, counted, before, one, sent_more q known, keeps.sent_so q known, owns_in-more (receipts_of c p) i within)
        | inr apart ↦
            let counted : owns_in (take (with_count done p (i + 1) q) (receipts_of c q)) ≡ owns_in (take (done q) (receipts_of c q)) =
            ap (λ k. owns_in (take k (receipts_of c q))) (with_count-other done p (i + 1) q apart) in
            let none : one_if ((q == p) && is_at_own r.at) ≡ one_if false = ap (λ t. one_if (t && is_at_own r.at)) (ne_eqb q p apart) in
            omega (arith, counted, none, sent_more q known, keeps.sent_so q known)
      ];
  asked_so = λ q a known inside.
      let r = receipt_at (receipts_of c p) i in
      let asks = is_at_round r.at && is_payout_from a r.call in
      elim (cases_eq q p) as (λ _. get_or asked2 (asked_position b q a) 0 ≡ asks_in a (take (with_count done p (i + 1) q) (receipts_of c q))) [
        | inl same ↦
            let counted : asks_in a (take (with_count done p (i + 1) q) (receipts_of c q)) ≡ asks_in a (take (i + 1) (receipts_of c p)) =
            λ t. asks_in a (take (with_count-own done p (i + 1) q same t) (receipts_of c (same t))) in
            let before : asks_in a (take (done q) (receipts_of c q)) ≡ asks_in a (take i (receipts_of c p)) =
            λ t. asks_in a (take ((ap done same ∙ here) t) (receipts_of c (same t))) in
            let one : one_if ((q == p) && asks) ≡ one_if asks = ap (λ t. one_if (t && asks)) (eq-eqb q p same) in
            omega (arith, counted, before, one, asked_more q a known inside, keeps.asked_so q a known inside, asks_in-more a (receipts_of c p) i within)
        | inr apart ↦
            let counted : asks_in a (take (with_count done p (i + 1) q) (receipts_of c q)) ≡ asks_in a (take (done q) (receipts_of c q)) =
            ap (λ k. asks_in a (take k (receipts_of c q))) (with_count-other done p (i + 1) q apart) in
            let none : one_if ((q == p) && asks) ≡ one_if false = ap (λ t. one_if (t && asks)) (ne_eqb q p apart) in
            omega (arith, counted, none, asked_more q a known inside, keeps.asked_so q a known inside)
      ];
}

-- the ledger is full exactly where the receipts say so
pub is_full-Keeps : (b : BookTerms) (c : ClosingTerms) (m : ℕ) (done : ℕ → ℕ) (balances sent asked : List ℕ) (p a i : ℕ)
    → Keeps b c m done balances sent asked → done p ≡ i → p < b.processes → a < length b.accounts
    → is_full (ledger b balances sent asked) p a ≡ has_no_room b a (take i (receipts_of c p))
is_full-Keeps b c m done balances sent asked p a i keeps here known inside =
    let sent_is : get_or sent p 0 ≡ owns_in (take i (receipts_of c p)) = keeps.sent_so p known ∙ ap (λ k. owns_in (take k (receipts_of c p))) here in
    let asked_is : get_or asked (asked_position b p a) 0 ≡ asks_in a (take i (receipts_of c p)) =
    keeps.asked_so p a known inside ∙ ap (λ k. asks_in a (take k (receipts_of c p))) here in
    λ t. (is_single (account_of b a) && (sent_is t == b.own_room)) || (is_shared (account_of b a) && (asked_is t == b.request_room))
