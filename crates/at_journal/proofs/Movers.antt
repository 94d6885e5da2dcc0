-- Each publication of the order that moves has a line that moves it.
use Rattle.std.proofs.Common.{◌≡◌, ℕ, ◌+◌, ◌*◌, ◌<◌, ◌==◌, ◌&&◌, Bool, true, false, cond, List, length, get_or, take, refl, sym, ap, subst, ◌∙◌, arith, inl, inr}
use Rattle.std.specs.Prelude.{Some}
use Rattle.at_journal.proofs.Prelude.{count_by, list_any, cases_lt, eq-eqb, eqb-true, list_any_at, get_or-take, length-take-le, take_all, Decision, BookTerms, IsBegun, account_of, TargetPair, first_account, Done, Short, Entry, Publication, publication_at, is_own, is_round, is_same_round, slot_in, prefix_of, count_of, no_publication, publications_of, firsts, owns_of, repeats, count_of-take_mono, count_of-take_more_own, count_of-take-le, get_or-publications_of, owner-slot, names, HasRounds-Coherent, HasViews-Coherent, Receipt, ClosingTerms, receipts_of, Coherent, journal_order, line_key, IsAtOwn, IsAtRound, IsPlaced, MayPay, read, not_owner, full, short, done, round, asks_in, is_at_own, is_at_round, is_payout_from, is_success, owns_in, receipt_at, key_at, own_position, round_position, is_round-true, AreFirsts-take, IsCoherentEntry-journal_order, IsFirst, IsFirst-journal_order, round_entry, named_before, HasView-journal_order, line_key-receipt, previous_key, IsOwnAt, own_position-at, round_position-at, is_payout_from-payout, first_account-payout}
use Rattle.at_journal.proofs.CountingLaws.{IsPassing-from_count, count_by-filter_and, count_by-past, same_passing}
use Rattle.at_journal.proofs.KeepLaws.{no_receipt}
use Rattle.at_journal.proofs.MoveLaws.{IsNewRound}

-- some line has this key
pub record HasLine (b : BookTerms) (c : ClosingTerms) (key : ℕ) : Type 0 where
  pub process : ℕ
  pub number : ℕ
  pub known : process < b.processes
  pub within : number < length (receipts_of c process)
  pub key_is : line_key c process number ≡ key

-- an own receipt that is right
own_receipt : (b : BookTerms) (c : ClosingTerms) (p i : ℕ) → IsPlaced b p (journal_order c) (take i (receipts_of c p)) (receipt_at (receipts_of c p) i)
    → is_at_own (receipt_at (receipts_of c p) i).at ≡ true
    → (source : ℕ) × (targets : List TargetPair) × IsAtOwn p (journal_order c) (take i (receipts_of c p)) source targets (receipt_at (receipts_of c p) i)
own_receipt b c p i (read account amount call reply cut) own = absurd (cc (own, ap is_at_own cut.at))
own_receipt b c p i (not_owner source targets call owner reply at) own = absurd (cc (own, ap is_at_own at))
own_receipt b c p i (full source targets call owner room reply at) own = absurd (cc (own, ap is_at_own at))
own_receipt b c p i (short source amount targets may single reply cut less) own = absurd (cc (own, ap is_at_own cut.at))
own_receipt b c p i (done source targets may single reply so) own = (source, targets, so)
own_receipt b c p i (round source targets may shared so) own = absurd (cc (own, ap is_at_own so.at))

-- two starts of one number of a process are one
own_place : (p m k : ℕ) (list : List Publication) (number : ℕ) → IsOwnAt p number list m → IsOwnAt p number list k → m ≡ k
own_place p m k list number one two =
    elim (cases_lt m k) as (λ _. m ≡ k) [
      | inl below ↦ absurd (omega (arith, one.before, two.before, count_of-take_more_own p m list no_publication one.within one.own, count_of-take_mono p (m + 1) k list (omega (arith, below))))
      | inr rest ↦
          elim (cases_lt k m) as (λ _. m ≡ k) [
            | inl above ↦ absurd (omega (arith, one.before, two.before, count_of-take_more_own p k list no_publication two.within two.own, count_of-take_mono p (k + 1) m list (omega (arith, above))))
            | inr equal ↦ omega (arith, rest, equal)
          ]
    ]

-- the own records of a process
owns_of-publications : (p : ℕ) (xs : List Publication) → count_by (λ x. is_own x.entry) (publications_of p xs) ≡ owns_of p xs
unfolding publications_of
owns_of-publications p xs = count_by-filter_and (λ (x : Publication). x.process == p) (λ x. is_own x.entry) xs

-- an own record has a line
pub HasLine-own : (b : BookTerms) (c : ClosingTerms) (m source : ℕ) (targets : List TargetPair) → Coherent b c → m < length (journal_order c)
    → (publication_at (journal_order c) m).entry ≡ Entry.Own source targets → HasLine b c (2 * m + 1)
HasLine-own b c m source targets coherent within is =
    let order = journal_order c in
    let p = (publication_at order m).process in
    let known = (HasView-journal_order b c m (HasViews-Coherent b c coherent) within).process in
    let pubs = publications_of p order in
    let number = count_of p (take m order) in
    let own : Publication → Bool = λ x. is_own x.entry in
    let here : publication_at pubs number ≡ publication_at order m = get_or-publications_of p m order no_publication within refl in
    let is_here : own (publication_at pubs number) ≡ true = ap (λ (x : Publication). is_own x.entry) here ∙ ap is_own is in
    let inside : number < length pubs = omega (arith, count_of-take_more_own p m order no_publication within refl, count_of-take-le p (m + 1) order) in
    let k = count_by own (take number pubs) in
    let total : count_by own pubs ≡ owns_in (receipts_of c p) = owns_of-publications p order ∙ (coherent.told p known).owns in
    let some : k < owns_in (receipts_of c p) =
    omega (arith, count_by-past own pubs number (length pubs) no_publication inside is_here inside, ap (count_by own) (take_all (length pubs) pubs (omega arith)), total) in
    let found = IsPassing-from_count (λ (r : Receipt). is_at_own r.at) (receipts_of c p) k no_receipt some in
    let i = found.index in
    let so = own_receipt b c p i ((coherent.told p known).placed i found.within) found.passes in
    let record_of = so.2 in
    let same : record_of.number ≡ number =
    same_passing own pubs record_of.number number no_publication record_of.within inside (ap is_own record_of.entry) is_here (record_of.next ∙ found.before) in
    let mine : IsOwnAt p number order m = record { within = within; own = refl; before = refl } in
    let theirs : IsOwnAt p number order (own_position p record_of.number order) =
    subst (λ k. IsOwnAt p k order (own_position p record_of.number order)) same (own_position-at p record_of.number order record_of.within) in
    let at_m = own_place p (own_position p record_of.number order) m order number theirs mine in
    record {
      process = p;
      number = i;
      known = known;
      within = found.within;
      key_is = line_key-receipt c p i found.within ∙ (ap (λ at. key_at p order (previous_key c p i) (receipt_at (receipts_of c p) i).call (is_success (receipt_at (receipts_of c p) i).reply) at) record_of.at
          ∙ ap (λ t. 2 * t + 1) at_m);
    }

-- a receipt of a round that is right
round_receipt : (b : BookTerms) (c : ClosingTerms) (p i : ℕ) → IsPlaced b p (journal_order c) (take i (receipts_of c p)) (receipt_at (receipts_of c p) i)
    → is_at_round (receipt_at (receipts_of c p) i).at ≡ true
    → (source : ℕ) × (targets : List TargetPair) × MayPay b p (take i (receipts_of c p)) source targets (receipt_at (receipts_of c p) i)
    × IsAtRound b p (journal_order c) (take i (receipts_of c p)) source targets (receipt_at (receipts_of c p) i)
round_receipt b c p i (read account amount call reply cut) own = absurd (cc (own, ap is_at_round cut.at))
round_receipt b c p i (not_owner source targets call owner reply at) own = absurd (cc (own, ap is_at_round at))
round_receipt b c p i (full source targets call owner room reply at) own = absurd (cc (own, ap is_at_round at))
round_receipt b c p i (short source amount targets may single reply cut less) own = absurd (cc (own, ap is_at_round cut.at))
round_receipt b c p i (done source targets may single reply so) own = absurd (cc (own, ap is_at_round so.at))
round_receipt b c p i (round source targets may shared so) own = (source, targets, may, so)

pub and_first : (s t : Bool) → (s && t) ≡ true → s ≡ true
and_first true t both = refl
and_first false t both = absurd (cc both)

pub and_second : (s t : Bool) → (s && t) ≡ true → t ≡ true
and_second true t both = both
and_second false t both = absurd (cc both)

-- the first record of a round stands at its place
place_of_round : (b : BookTerms) (c : ClosingTerms) (m a r : ℕ) (d : Decision) (targets : List TargetPair) → Coherent b c → IsNewRound c m a r d targets
    → round_position a r (journal_order c) ≡ m
place_of_round b c m a r d targets coherent new =
    let order = journal_order c in
    let there : is_round a r (publication_at order m).entry ≡ true = ap (is_round a r) new.entry ∙ (λ t. eq-eqb a a refl t && eq-eqb r r refl t) in
    let k = round_position a r order in
    let at = round_position-at a r order m new.within there in
    elim (cases_lt k m) as (λ _. k ≡ m) [
      | inl earlier ↦
          let one = is_round-true a r (publication_at order k).entry at.here in
          let size = length-take-le m order (omega (arith, new.within)) in
          let in_prefix : publication_at (take m order) k ≡ publication_at order k = get_or-take m order k no_publication earlier in
          let found = (AreFirsts-take b c m (HasRounds-Coherent b c coherent) (omega (arith, new.within))).has k a r one.0 one.1 (omega (arith, earlier, size))
          (ap (λ (x : Publication). x.entry) in_prefix ∙ one.2) in
          let some : list_any (λ (x : Publication). is_round a r x.entry) (firsts (take m order)) ≡ true =
          list_any_at (λ (x : Publication). is_round a r x.entry) (firsts (take m order)) found.0 no_publication found.1 found.2 in
          let again : repeats (publication_at order m) (firsts (take m order)) ≡ true =
          ap (λ e. list_any (λ (x : Publication). is_same_round e x.entry) (firsts (take m order))) new.entry ∙ some in
          absurd (cc (new.new, again))
      | inr rest ↦
          elim (cases_lt m k) as (λ _. k ≡ m) [
            | inl later ↦ absurd (cc (at.first m later, there))
            | inr equal ↦ omega (arith, rest, equal)
          ]
    ]

-- two decisions of one slot and number are those of one round
same_decision : (b : BookTerms) (c : ClosingTerms) (a r k slot : ℕ) (d e : Decision) (targets others : List TargetPair) → Coherent b c
    → (one : IsFirst (journal_order c) a r d targets) → (two : IsFirst (journal_order c) a k e others) → d.slot ≡ slot → e.slot ≡ slot
    → count_by (λ x. names a slot x.entry) (take one.number (firsts (journal_order c))) ≡ count_by (λ x. names a slot x.entry) (take two.number (firsts (journal_order c)))
    → Entry.Round a r d targets ≡ Entry.Round a k e others
same_decision b c a r k slot d e targets others coherent one two mine theirs same =
    let ys = firsts (journal_order c) in
    let named : Publication → Bool = λ x. names a slot x.entry in
    let first : named (publication_at ys one.number) ≡ true = ap (names a slot) one.entry ∙ (λ t. eq-eqb a a refl t && eq-eqb d.slot slot mine t) in
    let second : named (publication_at ys two.number) ≡ true = ap (names a slot) two.entry ∙ (λ t. eq-eqb a a refl t && eq-eqb e.slot slot theirs t) in
    let is : one.number ≡ two.number = same_passing named ys one.number two.number no_publication one.within two.within first second same in
    sym one.entry ∙ (ap (λ j. (publication_at ys j).entry) is ∙ two.entry)

same_slot : (s t : ℕ) → Some s ≡ Some t → s ≡ t
same_slot s t is = cc is

same_round : (a r k : ℕ) (d e : Decision) (targets others : List TargetPair) → Entry.Round a r d targets ≡ Entry.Round a k e others → (r ≡ k) × (d ≡ e)
same_round a r k d e targets others is = (cc is, cc is)

-- the first record of a round that succeeded has a line
pub HasLine-round : (b : BookTerms) (c : ClosingTerms) (m a r : ℕ) (d : Decision) (targets : List TargetPair) → Coherent b c → IsBegun b
    → IsNewRound c m a r d targets → d.ok ≡ true → HasLine b c (2 * m + 1)
HasLine-round b c m a r d targets coherent begun new ok =
    let order = journal_order c in
    let ys = firsts order in
    let x : Publication = publication_at order m in
    let law = round_entry b c x.process (prefix_of x.view order) x.entry a r d targets (IsCoherentEntry-journal_order b c m coherent new.within) new.entry in
    let owner = owner-slot b a d.slot begun law.0.account_in law.0.shared law.4.slot_in in
    let q = get_or (account_of b a).owners d.slot 0 in
    let has = owner.1 in
    let named : Publication → Bool = λ y. names a d.slot y.entry in
    let first = IsFirst-journal_order b c m a r d targets (HasRounds-Coherent b c coherent) law.2 new.within new.entry in
    let number_is : count_by named (take first.number ys) ≡ d.number = sym (named_before b c a r d.slot d targets (HasRounds-Coherent b c coherent) first) ∙ law.4.next in
    let passes : named (publication_at ys first.number) ≡ true = ap (names a d.slot) first.entry ∙ (λ t. eq-eqb a a refl t && eq-eqb d.slot d.slot refl t) in
    let total : count_by named ys ≡ asks_in a (receipts_of c q) = (coherent.told q owner.0).asks a d.slot has in
    let some : d.number < asks_in a (receipts_of c q) =
    omega (arith, number_is, count_by-past named ys first.number (length ys) no_publication first.within passes first.within, ap (count_by named) (take_all (length ys) ys (omega arith)), total) in
    let found = IsPassing-from_count (λ (t : Receipt). is_at_round t.at && is_payout_from a t.call) (receipts_of c q) d.number no_receipt some in
    let i = found.index in
    let receipt = receipt_at (receipts_of c q) i in
    let so = round_receipt b c q i ((coherent.told q owner.0).placed i found.within) (and_first (is_at_round receipt.at) (is_payout_from a receipt.call) found.passes) in
    let source = so.0 in
    let source_is : source ≡ a = eqb-true source a (sym (is_payout_from-payout a source so.1 receipt.call so.2.call) ∙ and_second (is_at_round receipt.at) (is_payout_from a receipt.call) found.passes) in
    let theirs = so.3 in
    let entry : (publication_at order theirs.position).entry ≡ Entry.Round a theirs.round theirs.decision so.1 =
    theirs.entry ∙ (λ t. Entry.Round (source_is t) theirs.round theirs.decision so.1) in
    let slots : Some theirs.decision.slot ≡ Some d.slot = sym theirs.slot ∙ ((λ t. slot_in (account_of b (source_is t)) q) ∙ has.owner) in
    let slot_is : theirs.decision.slot ≡ d.slot = same_slot theirs.decision.slot d.slot slots in
    let number_too : theirs.decision.number ≡ d.number = theirs.next ∙ ((λ t. asks_in (source_is t) (take i (receipts_of c q))) ∙ found.before) in
    let y : Publication = publication_at order theirs.position in
    let other_law = round_entry b c y.process (prefix_of y.view order) y.entry a theirs.round theirs.decision so.1 (IsCoherentEntry-journal_order b c theirs.position coherent theirs.within) entry in
    let other = IsFirst-journal_order b c theirs.position a theirs.round theirs.decision so.1 (HasRounds-Coherent b c coherent) other_law.2 theirs.within entry in
    let other_number : count_by named (take other.number ys) ≡ d.number =
    (λ t. count_by (λ (z : Publication). names a (sym slot_is t) z.entry) (take other.number ys))
    ∙ (sym (named_before b c a theirs.round theirs.decision.slot theirs.decision so.1 (HasRounds-Coherent b c coherent) other) ∙ (other_law.4.next ∙ number_too)) in
    let same = same_decision b c a r theirs.round d.slot d theirs.decision targets so.1 coherent first other refl slot_is (number_is ∙ sym other_number) in
    let parts = same_round a r theirs.round d theirs.decision targets so.1 same in
    let round_is : theirs.round ≡ r = sym parts.0 in
    let decision_is : d ≡ theirs.decision = parts.1 in
    let replied : receipt.reply ≡ Done = theirs.reply ∙ ap (λ t. cond t Done Short) (ap (λ (e : Decision). e.ok) (sym decision_is) ∙ ok) in
    let at_m : round_position (first_account receipt.call) theirs.round order ≡ m =
    (λ t. round_position ((first_account-payout source so.1 receipt.call so.2.call ∙ source_is) t) (round_is t) order) ∙ place_of_round b c m a r d targets coherent new in
    record {
      process = q;
      number = i;
      known = owner.0;
      within = found.within;
      key_is = line_key-receipt c q i found.within
          ∙ ((λ t. key_at q order (previous_key c q i) receipt.call (is_success (replied t)) (theirs.at t)) ∙ ap (λ t. 2 * t + 1) at_m);
    }
