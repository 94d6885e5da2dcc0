-- What the receipts of a process's four calls say of a list in which they stand: where each stands, and in which order.
use Rattle.std.proofs.Common.{◌≡◌, ℕ, ◌+◌, ◌*◌, ◌^◌, ◌<◌, ◌≤◌, ◌&&◌, Bool, true, false, cond, List, [], ◌∷◌, length, take, refl, sym, ap, subst, ◌∙◌, arith}
use Rattle.std.specs.Prelude.{None}
use Rattle.at_agree.proofs.Prelude.{eq-eqb, ne_eqb, get_or_default, Decision, HasSlot, Call, Transfer, Read, Balance, Done, Short, place-IsCut-le, balance_after, publication_at, place, ArePublishedBy, no_publication, named, owns_of, Round, Publication, IsPlaced, done, full, not_owner, read, round, short, payout_of, asks_in, calls_of, is_at_own, is_at_round, is_payout_from, is_success, owns_in, receipt_at, Told, key_at, key_of, keys_from, own_position, round_position, At, Receipt, IsSize, council_book, shared_account, spent_account, value_account, HasProposed, HasVoted, share_of, share_targets, named_account}
use Rattle.at_agree.proofs.CouncilBook.{length-accounts, slot-shared, slots_of-shared}
use Rattle.at_agree.proofs.PlacedCalls.{HasProposed-IsAtOwn, share_placed, position-HasProposed, slot-IsAtRound, value_placed}
use Rattle.at_agree.proofs.Shown.{IsCouncilList}

-- four receipts by their calls
pub record AreFour (receipts : List Receipt) (c0 c1 c2 c3 : Call) : Type 0 where
  pub r0 : Receipt
  pub r1 : Receipt
  pub r2 : Receipt
  pub r3 : Receipt
  pub list_is : receipts ≡ r0 ∷ r1 ∷ r2 ∷ r3 ∷ []
  pub call0 : r0.call ≡ c0
  pub call1 : r1.call ≡ c1
  pub call2 : r2.call ≡ c2
  pub call3 : r3.call ≡ c3

pub four_of : (receipts : List Receipt) (c0 c1 c2 c3 : Call) → calls_of receipts ≡ c0 ∷ c1 ∷ c2 ∷ c3 ∷ [] → AreFour receipts c0 c1 c2 c3
four_of [] c0 c1 c2 c3 is = absurd (cc is)
four_of (r0 ∷ []) c0 c1 c2 c3 is = absurd (cc is)
four_of (r0 ∷ r1 ∷ []) c0 c1 c2 c3 is = absurd (cc is)
four_of (r0 ∷ r1 ∷ r2 ∷ []) c0 c1 c2 c3 is = absurd (cc is)
four_of (r0 ∷ r1 ∷ r2 ∷ r3 ∷ []) c0 c1 c2 c3 is = record {
  r0 = r0;
  r1 = r1;
  r2 = r2;
  r3 = r3;
  list_is = refl;
  call0 = cc is;
  call1 = cc is;
  call2 = cc is;
  call3 = cc is;
}
four_of (r0 ∷ r1 ∷ r2 ∷ r3 ∷ r4 ∷ rest) c0 c1 c2 c3 is = absurd (cc is)

-- a read stands at a cut
pub record ReadsAt (k : ℕ) (list : List Publication) (account balance : ℕ) (at : At) : Type 0 where
  pub cut : List ℕ
  pub at_is : at ≡ At.Cut cut
  pub within : place cut ≤ length list
  pub balance_is : balance_after (council_book k) (take (place cut) list) account ≡ balance

ArePublishedBy-shown : (k : ℕ) (list : List Publication) → IsCouncilList k list → ArePublishedBy k list
ArePublishedBy-shown k list shown =
    λ i d within. subst (λ (x : Publication). x.process < k) (get_or_default list i no_publication d within) (shown.known i within)

pub read_placed : (k p account balance : ℕ) (list : List Publication) (earlier : List Receipt) (r : Receipt) → IsCouncilList k list
    → r.call ≡ Read account → r.reply ≡ Balance balance → IsPlaced (council_book k) p list earlier r → ReadsAt k list account balance r.at
read_placed k p account balance list earlier r shown call_is reply_is placed =
    let none : payout_of r.call ≡ None = ap payout_of call_is in
    let result = ReadsAt k list account balance r.at in
    elim placed as (λ _. result) [
      | read a n call reply at ↦
          let account_is : a ≡ account = cc (sym call ∙ call_is) in
          let balance_is : n ≡ balance = cc (sym reply ∙ reply_is) in
          record {
            cut = at.view;
            at_is = at.at;
            within = place-IsCut-le k at.view list at.cut (ArePublishedBy-shown k list shown);
            balance_is = ap (λ c. balance_after (council_book k) (take (place at.view) list) c) (sym account_is) ∙ (at.balance ∙ balance_is);
          }
      | not_owner source targets payout owner reply at ↦ absurd (cc (sym none ∙ payout))
      | full source targets payout owner room reply at ↦ absurd (cc (sym none ∙ payout))
      | short source n targets may single reply at less ↦ absurd (cc (sym none ∙ may.call))
      | done source targets may single reply at ↦ absurd (cc (sym none ∙ may.call))
      | round source targets may shared at ↦ absurd (cc (sym none ∙ may.call))
    ]

-- a call that was short has no own record
pub short-is_at_own : (k p : ℕ) (list : List Publication) (earlier : List Receipt) (r : Receipt) → r.reply ≡ Short
    → IsPlaced (council_book k) p list earlier r → is_at_own r.at ≡ false
short-is_at_own k p list earlier r reply_is placed =
    elim placed as (λ _. is_at_own r.at ≡ false) [
      | read a n call reply at ↦ ap is_at_own at.at
      | not_owner source targets payout owner reply at ↦ ap is_at_own at
      | full source targets payout owner room reply at ↦ ap is_at_own at
      | short source n targets may single reply at less ↦ ap is_at_own at.at
      | done source targets may single reply at ↦ absurd (cc (sym reply ∙ reply_is))
      | round source targets may shared at ↦ ap is_at_own at.at
    ]

-- what the votes of a process say of a list
pub record StandsAsVoted (k p value answer : ℕ) (list : List Publication) : Type 0 where
  pub paid : HasProposed k list p value
  pub round : ℕ
  pub decision : Decision
  pub position : ℕ
  pub within : position < length list
  pub entry : (publication_at list position).entry ≡ Round (shared_account k) round decision (share_targets k p)
  pub slot_is : decision.slot ≡ p
  pub owns_one : owns_of p list ≡ 1
  pub named_one : named (shared_account k) p list ≡ 1
  pub paid_done : decision.ok ≡ true → paid.position ≤ round_position (shared_account k) round list
  pub paid_short : decision.ok ≡ false → paid.position < decision.place
  pub left : ℕ
  pub found : ℕ
  pub found_in : found ≤ length list
  pub found_done : decision.ok ≡ true → round_position (shared_account k) round list < found
  pub found_short : decision.ok ≡ false → decision.place ≤ found
  pub found_is : balance_after (council_book k) (take found list) (shared_account k) ≡ left
  pub answered : ℕ
  pub answered_in : answered ≤ length list
  pub answered_after : found ≤ answered
  pub answered_is : balance_after (council_book k) (take answered list) (named_account k p left) ≡ answer

HasSlot-shared : (k p : ℕ) → IsSize k → p < k → HasSlot (council_book k) p (shared_account k) p
HasSlot-shared k p size known = record {
  account_in = omega (arith, length-accounts k);
  within = omega (arith, slots_of-shared k size.some, known);
  owner = slot-shared k p known;
}

-- the sums over four receipts
owns_in-four : (r0 r1 r2 r3 : Receipt) (own : Bool) → is_at_own r0.at ≡ own → is_at_own r1.at ≡ false → is_at_own r2.at ≡ false → is_at_own r3.at ≡ false
    → owns_in (r0 ∷ r1 ∷ r2 ∷ r3 ∷ []) ≡ cond own 1 0
owns_in-four r0 r1 r2 r3 own at0 at1 at2 at3 =
    omega (
      arith,
      ap (λ t. cond {A = ℕ} t 1 0) at0,
      ap (λ t. cond {A = ℕ} t 1 0) at1,
      ap (λ t. cond {A = ℕ} t 1 0) at2,
      ap (λ t. cond {A = ℕ} t 1 0) at3,
    )

asks_in-four : (a : ℕ) (r0 r1 r2 r3 : Receipt) → (is_at_round r0.at && is_payout_from a r0.call) ≡ false
    → (is_at_round r1.at && is_payout_from a r1.call) ≡ true → (is_at_round r2.at && is_payout_from a r2.call) ≡ false
    → (is_at_round r3.at && is_payout_from a r3.call) ≡ false → asks_in a (r0 ∷ r1 ∷ r2 ∷ r3 ∷ []) ≡ 1
asks_in-four a r0 r1 r2 r3 at0 at1 at2 at3 =
    omega (
      arith,
      ap (λ t. cond {A = ℕ} t 1 0) at0,
      ap (λ t. cond {A = ℕ} t 1 0) at1,
      ap (λ t. cond {A = ℕ} t 1 0) at2,
      ap (λ t. cond {A = ℕ} t 1 0) at3,
    )

-- a call that isn't a payment from the account asks for nothing there
pub asks_not : (a : ℕ) (r : Receipt) (c : Call) → r.call ≡ c → is_payout_from a c ≡ false → (is_at_round r.at && is_payout_from a r.call) ≡ false
asks_not a r c call_is other = ap (λ t. is_at_round r.at && t) (ap (is_payout_from a) call_is ∙ other) ∙ never (is_at_round r.at)
  where
    never : (t : Bool) → (t && false) ≡ false
    never true = refl
    never false = refl

-- the keys of four receipts don't fall
record AreInOrder (p : ℕ) (list : List Publication) (r0 r1 r2 r3 : Receipt) : Type 0 where
  pub previous : ℕ
  pub key0 : ℕ
  pub key1 : ℕ
  pub key2 : ℕ
  pub first : key_of p list 0 r0 ≤ key_of p list key0 r1
  pub second : key_of p list key0 r1 ≤ key_of p list key1 r2
  pub third : key_of p list key1 r2 ≤ key_of p list key2 r3

in_order : (k p : ℕ) (list : List Publication) (r0 r1 r2 r3 : Receipt) → Told (council_book k) p list (r0 ∷ r1 ∷ r2 ∷ r3 ∷ [])
    → AreInOrder p list r0 r1 r2 r3
unfolding keys_from
in_order k p list r0 r1 r2 r3 told =
    let key0 = key_of p list 0 r0 in
    let key1 = key_of p list key0 r1 in
    let key2 = key_of p list key1 r2 in
    record {
      previous = 0;
      key0 = key0;
      key1 = key1;
      key2 = key2;
      first = told.keys 0 1 0 (omega arith) (omega arith);
      second = told.keys 1 2 0 (omega arith) (omega arith);
      third = told.keys 2 3 0 (omega arith) (omega arith);
    }

-- the key of a request, by its outcome
key_of-done : (p number at previous a b n : ℕ) (list : List Publication) (r : Receipt) (ok : Bool) → r.call ≡ Transfer a b n → r.at ≡ At.Round number at
    → r.reply ≡ cond ok Done Short → ok ≡ true → key_of p list previous r ≡ 2 * round_position a number list + 1
key_of-done p number at previous a b n list r ok call_is at_is reply_is moved =
    λ t. key_at p list previous (call_is t) (is_success ((reply_is ∙ ap (λ s. cond s Done Short) moved) t)) (at_is t)

key_of-short : (p number at previous : ℕ) (list : List Publication) (r : Receipt) (ok : Bool) → r.at ≡ At.Round number at
    → r.reply ≡ cond ok Done Short → ok ≡ false → key_of p list previous r ≡ 2 * at
key_of-short p number at previous list r ok at_is reply_is refused =
    λ t. key_at p list previous r.call (is_success ((reply_is ∙ ap (λ s. cond s Done Short) refused) t)) (at_is t)

key_of-cut : (p previous : ℕ) (cut : List ℕ) (list : List Publication) (r : Receipt) → r.at ≡ At.Cut cut
    → key_of p list previous r ≡ 2 * place cut
key_of-cut p previous cut list r at_is = ap (λ at. key_at p list previous r.call (is_success r.reply) at) at_is

key_of-own : (p previous number : ℕ) (list : List Publication) (r : Receipt) → r.at ≡ At.Own number
    → key_of p list previous r ≡ 2 * own_position p number list + 1
key_of-own p previous number list r at_is = ap (λ at. key_at p list previous r.call (is_success r.reply) at) at_is

-- what the receipts of four such calls say
module _ (k p value left answer : ℕ) (list : List Publication) (r0 r1 r2 r3 : Receipt) where
  stands_by_four : IsSize k → p < k → value < 2 ^ 32 → IsCouncilList k list → Told (council_book k) p list (r0 ∷ r1 ∷ r2 ∷ r3 ∷ [])
      → r0.call ≡ Transfer p (value_account k p) value → r1.call ≡ Transfer (shared_account k) (spent_account k) (share_of k p)
      → r2.call ≡ Read (shared_account k) → r3.call ≡ Read (named_account k p left) → r2.reply ≡ Balance left → r3.reply ≡ Balance answer
      → StandsAsVoted k p value answer list
  stands_by_four size known small shown told call0 call1 call2 call3 reply2 reply3 =
      let a = shared_account k in
      let b = council_book k in
      let elsewhere : is_payout_from a (Transfer p (value_account k p) value) ≡ false = ne_eqb p (2 * k) (λ e. omega (arith, e, known)) in
      let asks0 : (is_at_round r0.at && is_payout_from a r0.call) ≡ false = asks_not a r0 (Transfer p (value_account k p) value) call0 elsewhere in
      let unasked : asks_in a (r0 ∷ []) ≡ 0 = omega (arith, ap (λ t. cond {A = ℕ} t 1 0) asks0) in
      let placed1 : IsPlaced b p list (r0 ∷ []) r1 = told.placed 1 (omega arith) in
      let asked = share_placed k p list (r0 ∷ []) r1 known size call1 unasked placed1 in
      let read2 = read_placed k p a left list (r0 ∷ r1 ∷ []) r2 shown call2 reply2 (told.placed 2 (omega arith)) in
      let read3 = read_placed k p (named_account k p left) answer list (r0 ∷ r1 ∷ r2 ∷ []) r3 shown call3 reply3 (told.placed 3 (omega arith)) in
      let placed0 : IsPlaced b p list [] r0 = told.placed 0 (omega arith) in
      let at1 : is_at_own r1.at ≡ false = ap is_at_own asked.at in
      let at2 : is_at_own r2.at ≡ false = ap is_at_own read2.at_is in
      let at3 : is_at_own r3.at ≡ false = ap is_at_own read3.at_is in
      let unpaid : r0.reply ≡ Short → owns_of p list ≡ 0 =
      λ (e : r0.reply ≡ Short). told.owns ∙ owns_in-four r0 r1 r2 r3 false (short-is_at_own k p list [] r0 e placed0) at1 at2 at3 in
      let paid = value_placed k p value list r0 known small shown call0 unpaid placed0 in
      let order = in_order k p list r0 r1 r2 r3 told in
      let own_key = key_of-own p 0 paid.number list r0 paid.at in
      let own_at = position-HasProposed k p value list [] r0 paid in
      let found_key = key_of-cut p order.key1 read2.cut list r2 read2.at_is in
      let last_key = key_of-cut p order.key2 read3.cut list r3 read3.at_is in
      let ok = asked.decision.ok in
      let done_key : ok ≡ true → key_of p list order.key0 r1 ≡ 2 * round_position a asked.round list + 1 =
      λ (e : ok ≡ true). key_of-done p asked.round asked.decision.place order.key0 a (spent_account k) (share_of k p) list r1 ok call1 asked.at asked.reply e in
      let short_key : ok ≡ false → key_of p list order.key0 r1 ≡ 2 * asked.decision.place =
      λ (e : ok ≡ false). key_of-short p asked.round asked.decision.place order.key0 list r1 ok asked.at asked.reply e in
      record {
        paid = HasProposed-IsAtOwn k p value list [] r0 paid;
        round = asked.round;
        decision = asked.decision;
        position = asked.position;
        within = asked.within;
        entry = asked.entry;
        slot_is = slot-IsAtRound k p list (r0 ∷ []) r1 known asked;
        owns_one = told.owns ∙ owns_in-four r0 r1 r2 r3 true (ap is_at_own paid.at) at1 at2 at3;
        named_one = told.asks a p (HasSlot-shared k p size known)
            ∙ asks_in-four a r0 r1 r2 r3 asks0 (λ t. is_at_round (asked.at t) && (ap (is_payout_from a) call1 ∙ eq-eqb a a refl) t)
            (asks_not a r2 (Read a) call2 refl) (asks_not a r3 (Read (named_account k p left)) call3 refl);
        paid_done = λ e. omega (arith, own_at, own_key, done_key e, order.first);
        paid_short = λ e. omega (arith, own_at, own_key, short_key e, order.first);
        left = left;
        found = place read2.cut;
        found_in = read2.within;
        found_done = λ e. omega (arith, found_key, done_key e, order.second);
        found_short = λ e. omega (arith, found_key, short_key e, order.second);
        found_is = read2.balance_is;
        answered = place read3.cut;
        answered_in = read3.within;
        answered_after = omega (arith, found_key, last_key, order.third);
        answered_is = read3.balance_is;
      }

pub stands_as_voted : (k p value answer : ℕ) (list : List Publication) (receipts : List Receipt) → IsSize k → p < k → value < 2 ^ 32
    → IsCouncilList k list → Told (council_book k) p list receipts → HasVoted k p value answer receipts → StandsAsVoted k p value answer list
stands_as_voted k p value answer list receipts size known small shown told voted =
    let four = four_of receipts (Transfer p (value_account k p) value) (Transfer (shared_account k) (spent_account k) (share_of k p))
    (Read (shared_account k)) (Read (named_account k p voted.left)) voted.calls in
    let reply2 : four.r2.reply ≡ Balance voted.left = ap (λ rs. (receipt_at rs 2).reply) (sym four.list_is) ∙ voted.found in
    let reply3 : four.r3.reply ≡ Balance answer = ap (λ rs. (receipt_at rs 3).reply) (sym four.list_is) ∙ voted.answered in
    stands_by_four k p value voted.left answer list four.r0 four.r1 four.r2 four.r3 size known small shown
    (subst (Told (council_book k) p list) four.list_is told) four.call0 four.call1 four.call2 four.call3 reply2 reply3
