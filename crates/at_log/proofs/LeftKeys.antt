-- The keys of the receipts of what a ledger leaves: as they don't fall in the state's list, they don't in the journal's order.
use Rattle.std.proofs.Common.{◌≡◌, ℕ, ◌+◌, ◌*◌, ◌<◌, ◌≤◌, ◌⊎◌, zero, suc, cond, List, [], ◌∷◌, length, get_or, take, refl, sym, ap, subst, ◌∙◌, arith, inl, inr}
use Rattle.at_log.proofs.Prelude.{cases_Bool, IsNonDecreasing, BookTerms, TargetPair, first_account, BoardState, publication_at, is_own, prefix_of, IsShownEntry, Publication, ClosingTerms, receipts_of, journal_order, IsAtCut, IsAtRound, IsPlaced, read, not_owner, full, short, done, round, is_success, receipt_at, key_at, key_of, keys_from, keys_of, round_position, At, Receipt, IsLeft}
use Rattle.at_log.proofs.Laws.Keys.{get_or-keys_from}
use Rattle.at_log.proofs.Laws.Replies.{first_account-payout}
use Rattle.at_log.proofs.Marks
use Rattle.at_log.proofs.Marks.{IsRoundMark, Mark, key_in, key_in-order, winner_cut, winner_place, winner_view}
use Rattle.at_log.proofs.OrderOfLeft.{IsHeldCut-receipt}

-- each number is at least the one before it, and the first at least this
abbrev IsRising : ℕ → List ℕ → Type 0
IsRising previous [] = Unit {0}
IsRising previous (k ∷ ks) = (previous ≤ k) × IsRising k ks

rising_behind : (k : ℕ) (ks : List ℕ) → IsNonDecreasing (k ∷ ks) → IsRising k ks
rising_behind k [] sorted = tt
rising_behind k (l ∷ ls) sorted = (
  sorted 0 1 0 (omega arith) (omega arith),
  rising_behind l ls (λ i j d before within. sorted (suc i) (suc j) d (omega (arith, before)) (omega (arith, within))),
)

rising : (ks : List ℕ) → IsNonDecreasing ks → IsRising 0 ks
rising [] sorted = tt
rising (k ∷ ks) sorted = (omega arith, rising_behind k ks sorted)

least : (k : ℕ) (ks : List ℕ) (j d : ℕ) → IsRising k ks → j < length ks → k ≤ get_or ks j d
least k [] j d rises within = absurd (omega (arith, within))
least k (l ∷ ls) zero d rises within = rises.0
least k (l ∷ ls) (suc j) d rises within = omega (arith, rises.0, least l ls j d rises.1 (omega (arith, within)))

sorted_rising : (k : ℕ) (ks : List ℕ) (i j d : ℕ) → IsRising k ks → i ≤ j → j < length ks → get_or ks i d ≤ get_or ks j d
sorted_rising k [] i j d rises before within = absurd (omega (arith, within))
sorted_rising k (l ∷ ls) zero zero d rises before within = omega arith
sorted_rising k (l ∷ ls) zero (suc j) d rises before within = least l ls j d rises.1 (omega (arith, within))
sorted_rising k (l ∷ ls) (suc i) zero d rises before within = absurd (omega (arith, before))
sorted_rising k (l ∷ ls) (suc i) (suc j) d rises before within = sorted_rising l ls i j d rises.1 (omega (arith, before)) (omega (arith, within))

module _ (b : BookTerms) (s : BoardState) (c : ClosingTerms) (left : IsLeft b s c) (p : ℕ) (known : p < b.processes) where
  abbrev pub TheMark : Type 0
  TheMark = Mark b s c left p known

  abbrev pub key_at_mark : List Publication → TheMark → ℕ
  key_at_mark list h = key_in b s c left p known list h

  -- a receipt without a place, or one that stands at a mark
  abbrev HasMark : Receipt → Type 0
  HasMark r = (r.at ≡ At.Previous) ⊎ ((h : TheMark) × ((list : List Publication) (previous : ℕ) → key_of p list previous r ≡ key_at_mark list h))

  abbrev the_receipt : ℕ → Receipt
  the_receipt i = receipt_at (receipts_of c p) i

  -- a receipt at a cut
  still_mark : (i account amount : ℕ) → i < length (receipts_of c p) → IsAtCut b s.published account amount (the_receipt i) → HasMark (the_receipt i)
  still_mark i account amount within at =
      let r = the_receipt i in
      inr (
        Marks.still at.view (IsHeldCut-receipt b s c left p i at.view known within at.at),
        λ list previous.
            ap (key_at p list previous r.call (is_success r.reply)) at.at,
      )

  -- the round of a receipt
  pub round_mark : (source : ℕ) (targets : List TargetPair) (earlier : List Receipt) (r : Receipt)
      → (so : IsAtRound b p s.published earlier source targets r) → IsRoundMark b s c left p known source so.round so.decision
  round_mark source targets earlier r so =
      let x : Publication = publication_at s.published so.position in
      let law = subst (IsShownEntry b x.process (prefix_of x.view s.published)) so.entry (left.history.entries so.position so.within) in
      record {
        position = so.position;
        targets = targets;
        within = so.within;
        entry = so.entry;
        slot = record { account_in = law.0.account_in; within = law.3; owner = so.slot };
      }

  mark_placed : (i : ℕ) → i < length (receipts_of c p) → IsPlaced b p s.published (take i (receipts_of c p)) (the_receipt i) → HasMark (the_receipt i)
  mark_placed i within (read account amount call reply at) = still_mark i account amount within at
  mark_placed i within (not_owner source targets call owner reply at) = inl at
  mark_placed i within (full source targets call owner room reply at) = inl at
  mark_placed i within (short source amount targets may single reply at less) = still_mark i source amount within at
  mark_placed i within (done source targets may single reply so) =
      let r = the_receipt i in
      inr (
        Marks.own so.number (record { within = so.within; own = ap is_own so.entry }),
        λ list previous.
            ap (key_at p list previous r.call (is_success r.reply)) so.at,
      )
  mark_placed i within (round source targets may shared so) =
      let r = the_receipt i in
      let d = so.decision in
      let at = round_mark source targets (take i (receipts_of c p)) r so in
      let key : (list : List Publication) → ℕ = λ list. 2 * round_position (first_account r.call) so.round list + 1 in
      let here : (list : List Publication) (previous : ℕ) → key_of p list previous r ≡ cond (is_success r.reply) (key list) (2 * d.place) =
      λ list previous. ap (key_at p list previous r.call (is_success r.reply)) so.at in
      elim (cases_Bool (is_success r.reply)) as (λ _. HasMark r) [
        | inl moved ↦
            inr (
              Marks.round source so.round d at,
              λ list previous.
                  here list previous
                  ∙ (ap (λ t. cond t (key list) (2 * d.place)) moved
                  ∙ ap (λ a. 2 * round_position a so.round list + 1) (first_account-payout source targets r.call may.call)),
            )
        | inr refused ↦
            inr (
              Marks.still (winner_view b s c left p known source so.round d at) (winner_cut b s c left p known source so.round d at),
              λ list previous.
                  here list previous
                  ∙ (ap (λ t. cond t (key list) (2 * d.place)) refused
                  ∙ ap (λ n. 2 * n) (sym (winner_place b s c left p known source so.round d at))),
            )
      ]

  -- the keys before are those of no receipt, or of one receipt
  abbrev pub AreLinked : ℕ → ℕ → Type 0
  AreLinked previous other = (other ≡ 0) ⊎ ((h : TheMark) × (previous ≡ key_at_mark s.published h) × (other ≡ key_at_mark (journal_order c) h))

  next_mark : (previous other : ℕ) (h : TheMark) → AreLinked previous other → previous ≤ key_at_mark s.published h → other ≤ key_at_mark (journal_order c) h
  next_mark previous other h (inl none) before = omega (arith, none)
  next_mark previous other h (inr (g, first, second)) before =
      omega (arith, second, key_in-order b s c left p known g h (omega (arith, before, first)))

  -- where the keys rise in the list, they rise in the journal's order
  rising-order : (receipts : List Receipt) (previous other : ℕ) → AreLinked previous other → ((i : ℕ) → i < length receipts → HasMark (receipt_at receipts i))
      → IsRising previous (keys_from p s.published previous receipts) → IsRising other (keys_from p (journal_order c) other receipts)
  unfolding keys_from
  rising-order [] previous other linked each rises = tt
  rising-order (r ∷ rs) previous other linked each rises =
      let key = key_of p s.published previous r in
      let key_too = key_of p (journal_order c) other r in
      let rest : AreLinked key key_too → IsRising key_too (keys_from p (journal_order c) key_too rs) = λ after.
      rising-order rs key key_too after (λ i within. each (suc i) (omega (arith, within))) rises.1 in
      elim (each 0 (omega arith)) as (λ _. (other ≤ key_too) × IsRising key_too (keys_from p (journal_order c) key_too rs)) [
        | inl at ↦
            let same : key ≡ previous = ap (key_at p s.published previous r.call (is_success r.reply)) at in
            let same_too : key_too ≡ other = ap (key_at p (journal_order c) other r.call (is_success r.reply)) at in
            (omega (arith, same_too), rest (subst (λ n. AreLinked n key_too) (sym same) (subst (AreLinked previous) (sym same_too) linked)))
        | inr found ↦
            let h = found.0 in
            let here = found.1 s.published previous in
            let there = found.1 (journal_order c) other in
            (omega (arith, there, next_mark previous other h linked (omega (arith, rises.0, here))), rest (inr (h, here, there)))
      ]

  pub keys-left : IsNonDecreasing (keys_of p (journal_order c) (receipts_of c p))
  keys-left i j d before within =
      let told = left.told p known in
      sorted_rising 0 (keys_of p (journal_order c) (receipts_of c p)) i j d
      (rising-order (receipts_of c p) 0 0 (inl refl) (λ k inside. mark_placed k inside (told.placed k inside))
      (rising (keys_of p s.published (receipts_of c p)) told.keys)) before within

  -- those before each receipt, and behind all of them, are so in the two lists
  pub keys-linked : (i : ℕ) → i ≤ length (receipts_of c p)
      → AreLinked (get_or (0 ∷ keys_of p s.published (receipts_of c p)) i 0) (get_or (0 ∷ keys_of p (journal_order c) (receipts_of c p)) i 0)
  keys-linked zero within = inl refl
  keys-linked (suc i) within =
      let receipts = receipts_of c p in
      let inside : i < length receipts = omega (arith, within) in
      let r = the_receipt i in
      let previous = get_or (0 ∷ keys_of p s.published receipts) i 0 in
      let other = get_or (0 ∷ keys_of p (journal_order c) receipts) i 0 in
      let key = get_or (keys_of p s.published receipts) i 0 in
      let key_too = get_or (keys_of p (journal_order c) receipts) i 0 in
      let here : key ≡ key_of p s.published previous r = get_or-keys_from p s.published 0 receipts i inside in
      let there : key_too ≡ key_of p (journal_order c) other r = get_or-keys_from p (journal_order c) 0 receipts i inside in
      elim (mark_placed i inside ((left.told p known).placed i inside)) as (λ _. AreLinked key key_too) [
        | inl at ↦
            let same : key ≡ previous = here ∙ ap (key_at p s.published previous r.call (is_success r.reply)) at in
            let same_too : key_too ≡ other = there ∙ ap (key_at p (journal_order c) other r.call (is_success r.reply)) at in
            subst (λ n. AreLinked n key_too) (sym same) (subst (AreLinked previous) (sym same_too) (keys-linked i (omega (arith, within))))
        | inr found ↦ inr (found.0, here ∙ found.1 s.published previous, there ∙ found.1 (journal_order c) other)
      ]
