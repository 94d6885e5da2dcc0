-- A receipt in a longer list: it stays placed with the same key, which is at most twice the length of the list where it was placed.
use Rattle.std.proofs.Common.{◌≡◌, ℕ, ◌+◌, ◌*◌, ◌<◌, ◌≤◌, ◌&&◌, zero, suc, true, cond, List, [], ◌∷◌, ◌++◌, length, take, refl, sym, ap, subst, ◌∙◌, arith, inl, inr}
use Rattle.at_log.proofs.Prelude.{cases_Bool, cases_lt, eq-eqb, get_or_append_left, take-append-le, All-cons, All, count_by, BookTerms, TargetPair, first_account, position-below, publications_of-append, IsCut-IsPrefix, place-IsCut-le, prefix_of-IsPrefix, ArePublishedBy-IsHistory, IsPrefix-count_of, IsPrefix-length, publications_of-IsPrefix, take-IsPrefix-le, balance_after, publication_at, is_own, is_round, IsHistory, IsShownDecision, IsShownRound, IsPrefix, count_of, no_publication, publications_of, Publication, IsAtCut, IsAtOwn, IsAtRound, IsPlaced, read, not_owner, full, short, done, round, is_success, receipt_at, key_at, key_of, keys_from, keys_of, own_position, round_position, Receipt}
use Rattle.at_log.proofs.Laws.Positions.{IsOwnAt, own_position-at, round_position-at}
use Rattle.at_log.proofs.Laws.Replies.{first_account-payout}

-- a record of a list stands at its place in a longer one
pub publication_at-IsPrefix : (m : ℕ) (list more : List Publication) → IsPrefix list more → m < length list
    → publication_at more m ≡ publication_at list m
publication_at-IsPrefix m list more before within =
    ap (λ t. publication_at t m) before.1 ∙ get_or_append_left list before.0 no_publication m within

-- two positions with as many records of a process before them are one
same_position : (p number : ℕ) (xs : List Publication) (m k : ℕ) → IsOwnAt p number xs m → IsOwnAt p number xs k → m ≡ k
same_position p number xs m k one other =
    elim (cases_lt m k) as (λ _. m ≡ k) [
      | inl below ↦ absurd (omega (arith, one.before, other.before, position-below p m k xs no_publication one.within one.own below))
      | inr above ↦ elim (cases_lt k m) as (λ _. m ≡ k) [
        | inl over ↦ absurd (omega (arith, one.before, other.before, position-below p k m xs no_publication other.within other.own over))
        | inr not ↦ omega (arith, above, not)
      ]
    ]

-- record i of a process has the same position in a longer list
pub own_position-IsPrefix : (p number : ℕ) (list more : List Publication) → IsPrefix list more → number < count_of p list
    → own_position p number more ≡ own_position p number list
own_position-IsPrefix p number list more before within =
    let m = own_position p number list in
    let at = own_position-at p number list within in
    let later = own_position-at p number more (omega (arith, within, IsPrefix-count_of p list more before)) in
    let still : IsOwnAt p number more m = record {
      within = omega (arith, at.within, IsPrefix-length list more before);
      own = ap (λ (x : Publication). x.process) (publication_at-IsPrefix m list more before at.within) ∙ at.own;
      before = ap (count_of p) (take-IsPrefix-le m list more (omega (arith, at.within)) before) ∙ at.before;
    } in
    same_position p number more (own_position p number more) m later still

-- and so has the first record of a round
round_position-append : (account number k : ℕ) (xs ys : List Publication) → k < length xs
    → is_round account number (publication_at xs k).entry ≡ true
    → round_position account number (xs ++ ys) ≡ round_position account number xs
unfolding round_position
round_position-append account number k [] ys within there = absurd (omega arith)
round_position-append account number zero (x ∷ xs) ys within there =
    ap (λ t. cond t 0 (round_position account number (xs ++ ys) + 1)) there
    ∙ sym (ap (λ t. cond t 0 (round_position account number xs + 1)) there)
round_position-append account number (suc k) (x ∷ xs) ys within there =
    ap (λ j. cond (is_round account number x.entry) 0 (j + 1)) (round_position-append account number k xs ys (omega arith) there)

pub round_position-IsPrefix : (account number k : ℕ) (list more : List Publication) → IsPrefix list more → k < length list
    → is_round account number (publication_at list k).entry ≡ true
    → round_position account number more ≡ round_position account number list
round_position-IsPrefix account number k list more before within there =
    ap (round_position account number) before.1 ∙ round_position-append account number k list before.0 within there

module _ (b : BookTerms) (p : ℕ) (list more : List Publication) (history : IsHistory b list) (before : IsPrefix list more) where
  IsAtCut-IsPrefix : (account amount : ℕ) (r : Receipt) → IsAtCut b list account amount r → IsAtCut b more account amount r
  IsAtCut-IsPrefix account amount r at =
      let known = ArePublishedBy-IsHistory b list history in
      record {
        view = at.view;
        cut = IsCut-IsPrefix b.processes at.view list more at.cut known before;
        at = at.at;
        balance = ap (λ t. balance_after b t account) (prefix_of-IsPrefix b.processes at.view list more at.cut known before) ∙ at.balance;
      }

  IsAtOwn-IsPrefix : (earlier : List Receipt) (source : ℕ) (targets : List TargetPair) (r : Receipt) → IsAtOwn p list earlier source targets r
      → IsAtOwn p more earlier source targets r
  IsAtOwn-IsPrefix earlier source targets r at =
      let log : take at.number (publications_of p more) ≡ take at.number (publications_of p list) =
      ap (take at.number) (ap (publications_of p) before.1 ∙ publications_of-append p list before.0)
      ∙ take-append-le at.number (publications_of p list) (publications_of p before.0) (omega (arith, at.within)) in
      record {
        number = at.number;
        within = omega (arith, at.within, IsPrefix-count_of p list more before);
        at = at.at;
        entry = ap (λ (x : Publication). x.entry) (publications_of-IsPrefix p at.number list more before at.within) ∙ at.entry;
        next = ap (count_by (λ (x : Publication). is_own x.entry)) log ∙ at.next;
      }

  IsAtRound-IsPrefix : (earlier : List Receipt) (source : ℕ) (targets : List TargetPair) (r : Receipt) → IsAtRound b p list earlier source targets r
      → IsAtRound b p more earlier source targets r
  IsAtRound-IsPrefix earlier source targets r at = record {
    round = at.round;
    decision = at.decision;
    position = at.position;
    within = omega (arith, at.within, IsPrefix-length list more before);
    at = at.at;
    entry = ap (λ (x : Publication). x.entry) (publication_at-IsPrefix at.position list more before at.within) ∙ at.entry;
    slot = at.slot;
    next = at.next;
    reply = at.reply;
  }

  -- a receipt stays placed in a longer list
  pub IsPlaced-IsPrefix : (earlier : List Receipt) (r : Receipt) → IsPlaced b p list earlier r → IsPlaced b p more earlier r
  IsPlaced-IsPrefix earlier r (read account amount call reply cut) = read account amount call reply (IsAtCut-IsPrefix account amount r cut)
  IsPlaced-IsPrefix earlier r (not_owner source targets call owner reply at) = not_owner source targets call owner reply at
  IsPlaced-IsPrefix earlier r (full source targets call owner room reply at) = full source targets call owner room reply at
  IsPlaced-IsPrefix earlier r (short source amount targets may single reply cut less) =
      short source amount targets may single reply (IsAtCut-IsPrefix source amount r cut) less
  IsPlaced-IsPrefix earlier r (done source targets may single reply own) =
      done source targets may single reply (IsAtOwn-IsPrefix earlier source targets r own)
  IsPlaced-IsPrefix earlier r (round source targets may shared so) =
      round source targets may shared (IsAtRound-IsPrefix earlier source targets r so)

  -- with the same key
  pub key_of-IsPrefix : (earlier : List Receipt) (r : Receipt) (previous : ℕ) → IsPlaced b p list earlier r
      → key_of p more previous r ≡ key_of p list previous r
  key_of-IsPrefix earlier r previous (read account amount call reply cut) =
      ap (key_at p more previous r.call (is_success r.reply)) cut.at
      ∙ sym (ap (key_at p list previous r.call (is_success r.reply)) cut.at)
  key_of-IsPrefix earlier r previous (not_owner source targets call owner reply at) =
      ap (key_at p more previous r.call (is_success r.reply)) at
      ∙ sym (ap (key_at p list previous r.call (is_success r.reply)) at)
  key_of-IsPrefix earlier r previous (full source targets call owner room reply at) =
      ap (key_at p more previous r.call (is_success r.reply)) at
      ∙ sym (ap (key_at p list previous r.call (is_success r.reply)) at)
  key_of-IsPrefix earlier r previous (short source amount targets may single reply cut less) =
      ap (key_at p more previous r.call (is_success r.reply)) cut.at
      ∙ sym (ap (key_at p list previous r.call (is_success r.reply)) cut.at)
  key_of-IsPrefix earlier r previous (done source targets may single reply own) =
      ap (key_at p more previous r.call (is_success r.reply)) own.at
      ∙ (ap (λ k. 2 * k + 1) (own_position-IsPrefix p own.number list more before own.within)
      ∙ sym (ap (key_at p list previous r.call (is_success r.reply)) own.at))
  key_of-IsPrefix earlier r previous (round source targets may shared so) =
      let account : first_account r.call ≡ source = first_account-payout source targets r.call may.call in
      let there : is_round (first_account r.call) so.round (publication_at list so.position).entry ≡ true =
      ap (is_round (first_account r.call) so.round) so.entry
      ∙ (λ t. eq-eqb source (first_account r.call) (sym account) t && eq-eqb so.round so.round refl t) in
      ap (key_at p more previous r.call (is_success r.reply)) so.at
      ∙ (ap (λ k. cond (is_success r.reply) (2 * k + 1) (2 * so.decision.place))
      (round_position-IsPrefix (first_account r.call) so.round so.position list more before so.within there)
      ∙ sym (ap (key_at p list previous r.call (is_success r.reply)) so.at))

-- the key of a placed receipt is at most twice the length, where the key before it is
pub key_of-le : (b : BookTerms) (p : ℕ) (list : List Publication) (earlier : List Receipt) (r : Receipt) (previous : ℕ) → IsHistory b list
    → previous ≤ 2 * length list → IsPlaced b p list earlier r → key_of p list previous r ≤ 2 * length list
key_of-le b p list earlier r previous history small (read account amount call reply cut) =
    omega (
      arith,
      ap (key_at p list previous r.call (is_success r.reply)) cut.at,
      place-IsCut-le b.processes cut.view list cut.cut (ArePublishedBy-IsHistory b list history),
    )
key_of-le b p list earlier r previous history small (not_owner source targets call owner reply at) =
    omega (arith, small, ap (key_at p list previous r.call (is_success r.reply)) at)
key_of-le b p list earlier r previous history small (full source targets call owner room reply at) =
    omega (arith, small, ap (key_at p list previous r.call (is_success r.reply)) at)
key_of-le b p list earlier r previous history small (short source amount targets may single reply cut less) =
    omega (
      arith,
      ap (key_at p list previous r.call (is_success r.reply)) cut.at,
      place-IsCut-le b.processes cut.view list cut.cut (ArePublishedBy-IsHistory b list history),
    )
key_of-le b p list earlier r previous history small (done source targets may single reply own) =
    omega (
      arith,
      ap (key_at p list previous r.call (is_success r.reply)) own.at,
      (own_position-at p own.number list own.within).within,
    )
key_of-le b p list earlier r previous history small (round source targets may shared so) =
    let account : first_account r.call ≡ source = first_account-payout source targets r.call may.call in
    let there : is_round (first_account r.call) so.round (publication_at list so.position).entry ≡ true =
    ap (is_round (first_account r.call) so.round) so.entry
    ∙ (λ t. eq-eqb source (first_account r.call) (sym account) t && eq-eqb so.round so.round refl t) in
    let first = round_position-at (first_account r.call) so.round list so.position so.within there in
    let shown : IsShownRound b list source so.round so.decision targets = subst (IsShownDecision b list) so.entry (history.decisions so.position so.within) in
    let pos = round_position (first_account r.call) so.round list in
    let here = ap (key_at p list previous r.call (is_success r.reply)) so.at in
    elim (cases_Bool (is_success r.reply)) as (λ _. key_of p list previous r ≤ 2 * length list) [
      | inl moved ↦ omega (arith, here, ap (λ t. cond t (2 * pos + 1) (2 * so.decision.place)) moved, first.within)
      | inr refused ↦ omega (arith, here, ap (λ t. cond t (2 * pos + 1) (2 * so.decision.place)) refused, shown.place)
    ]

-- keys after a list of receipts

-- where each key is at most a bound if the one before it is, all are
keys_from-le : (p : ℕ) (list : List Publication) (previous bound : ℕ) (receipts : List Receipt) → previous ≤ bound
    → ((i k : ℕ) → i < length receipts → k ≤ bound → key_of p list k (receipt_at receipts i) ≤ bound)
    → All (λ k. k ≤ bound) (keys_from p list previous receipts)
unfolding keys_from
keys_from-le p list previous bound [] small each = λ i d within. absurd (omega arith)
keys_from-le p list previous bound (r ∷ rs) small each =
    let here : key_of p list previous r ≤ bound = each 0 previous (omega arith) small in
    All-cons (λ k. k ≤ bound) (key_of p list previous r) (keys_from p list (key_of p list previous r) rs) here
    (keys_from-le p list (key_of p list previous r) bound rs here (λ i k within. each (suc i) k (omega (arith, within))))

-- so each key of receipts that are placed is
pub keys_of-le : (b : BookTerms) (p : ℕ) (list : List Publication) (receipts : List Receipt) → IsHistory b list
    → ((i : ℕ) → i < length receipts → IsPlaced b p list (take i receipts) (receipt_at receipts i))
    → All (λ k. k ≤ 2 * length list) (keys_of p list receipts)
keys_of-le b p list receipts history placed =
    keys_from-le p list 0 (2 * length list) receipts (omega arith)
    (λ i k within small. key_of-le b p list (take i receipts) (receipt_at receipts i) k history small (placed i within))

-- where each receipt has the same key in two lists, all together have
keys_from-same : (p : ℕ) (list more : List Publication) (previous : ℕ) (receipts : List Receipt)
    → ((i k : ℕ) → i < length receipts → key_of p more k (receipt_at receipts i) ≡ key_of p list k (receipt_at receipts i))
    → keys_from p more previous receipts ≡ keys_from p list previous receipts
unfolding keys_from
keys_from-same p list more previous [] each = refl
keys_from-same p list more previous (r ∷ rs) each =
    let here : key_of p more previous r ≡ key_of p list previous r = each 0 previous (omega arith) in
    (λ t. here t ∷ keys_from p more (here t) rs)
    ∙ ap (λ ks. key_of p list previous r ∷ ks)
    (keys_from-same p list more (key_of p list previous r) rs (λ i k within. each (suc i) k (omega (arith, within))))

pub keys_of-IsPrefix : (b : BookTerms) (p : ℕ) (list more : List Publication) (receipts : List Receipt) → IsHistory b list → IsPrefix list more
    → ((i : ℕ) → i < length receipts → IsPlaced b p list (take i receipts) (receipt_at receipts i))
    → keys_of p more receipts ≡ keys_of p list receipts
keys_of-IsPrefix b p list more receipts history before placed =
    keys_from-same p list more 0 receipts
    (λ i k within. key_of-IsPrefix b p list more history before (take i receipts) (receipt_at receipts i) k (placed i within))
