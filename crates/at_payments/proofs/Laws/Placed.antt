-- Receipts of single accounts are right where they stand, and a covered payment may be published.
use Rattle.std.proofs.Common.{◌≡◌, ℕ, ◌<◌, ◌≤◌, ◌==◌, ◌&&◌, ◌||◌, true, false, cond, List, Some, length, take, get_or, refl, sym, ap, subst, ◌∙◌, arith}
use Rattle.at_payments.proofs.Prelude.{eqb-true, le-ltb, lt-ltb, ne_eqb, count_by, AccountTerms, is_shared, is_single, BookTerms, account_of, is_owner, TargetPair, amount_of, payout_of, Call, Done, Short, place-IsCut-le, ArePublishedBy-IsHistory, owns_of-IsPrefix, IsCovered, balance_after, publication_at, is_own, IsCut, place, prefix_of, IsHistory, count_of, publications_of, owns_of, AreTargets, Entry, Publication, own_part, Knowledge, MayAppend, IsPlaced, has_no_room, short, done, asks_in, owns_in, Cut, Own, Receipt, IsOnlyOwner, payment_reply, HasLoaded, IsSnapshot}
use Rattle.std.specs.Prelude.{nat_le}
use Rattle.at_payments.proofs.Laws.Looks.{first-HasLoaded}

-- a single account isn't shared
is_shared-single : (t : AccountTerms) → is_single t ≡ true → is_shared t ≡ false
is_shared-single t single = ap (nat_le 2) (eqb-true (length t.owners) 1 single)

-- an only owner that has used less than its own room has room
has_no_room-less : (b : BookTerms) (source : ℕ) (earlier : List Receipt) → is_single (account_of b source) ≡ true → owns_in earlier < b.own_room
    → has_no_room b source earlier ≡ false
has_no_room-less b source earlier single less =
    let asked = asks_in source earlier == b.request_room in
    ap (λ t. (t && (owns_in earlier == b.own_room)) || (is_shared (account_of b source) && asked)) single
    ∙ (ap (λ t. t || (is_shared (account_of b source) && asked)) (ne_eqb (owns_in earlier) b.own_room (λ e. omega (arith, e, less)))
    ∙ ap (λ t. t && asked) (is_shared-single (account_of b source) single))

-- a payment of an only owner with room that the balance at a cut doesn't cover is short there
pub IsPlaced-short : (b : BookTerms) (p : ℕ) (list : List Publication) (earlier : List Receipt) (call : Call) (from : ℕ) (targets : List TargetPair) (view : List ℕ)
    → payout_of call ≡ Some (from, targets) → IsOnlyOwner b p from → owns_in earlier < b.own_room → IsCut b.processes view list
    → balance_after b (prefix_of view list) from < amount_of targets
    → IsPlaced b p list earlier (record { call = call; reply = Short; at = Cut view })
IsPlaced-short b p list earlier call from targets view payout owner room cut less =
    short from (balance_after b (prefix_of view list) from) targets
    (record { call = payout; owner = owner.owner; room = has_no_room-less b from earlier owner.single room })
    owner.single refl
    (record { view = view; cut = cut; at = refl; balance = refl })
    less

-- and one whose record is the next own one is done there
pub IsPlaced-done : (b : BookTerms) (p : ℕ) (list : List Publication) (earlier : List Receipt) (call : Call) (from : ℕ) (targets : List TargetPair) (number : ℕ)
    → payout_of call ≡ Some (from, targets) → IsOnlyOwner b p from → owns_in earlier < b.own_room → number < count_of p list
    → (publication_at (publications_of p list) number).entry ≡ Entry.Own from targets
    → count_by (λ x. is_own x.entry) (take number (publications_of p list)) ≡ owns_in earlier
    → IsPlaced b p list earlier (record { call = call; reply = Done; at = Own number })
IsPlaced-done b p list earlier call from targets number payout owner room within entry next =
    done from targets
    (record { call = payout; owner = owner.owner; room = has_no_room-less b from earlier owner.single room })
    owner.single refl
    (record { number = number; within = within; at = refl; entry = entry; next = next })

-- what a balance is at least is covered
IsCovered-balance_after : (b : BookTerms) (list : List Publication) (cut : List ℕ) (a amount : ℕ) → IsHistory b list → IsCut b.processes cut list
    → a < length b.accounts → amount ≤ balance_after b (prefix_of cut list) a → IsCovered b (prefix_of cut list) a amount
IsCovered-balance_after b list cut a amount history is account_in enough =
    let within = place-IsCut-le b.processes cut list is (ArePublishedBy-IsHistory b list history) in
    omega (arith, enough, (history.runs (place cut) within).covered a account_in)

-- a payment of an only owner with room that the balance at a snapshot covers may be published with that view
pub MayAppend-IsSnapshot : (b : BookTerms) (v w : Knowledge) (cut : List ℕ) (from : ℕ) (targets : List TargetPair) → IsSnapshot b v w cut → HasLoaded b v w
    → v.first < b.processes → count_of v.first v.seen ≡ (own_part v).published → IsOnlyOwner b v.first from → from < length b.accounts
    → AreTargets b targets → owns_of v.first v.seen < b.own_room → amount_of targets ≤ balance_after b (prefix_of cut w.seen) from
    → MayAppend b w (record { entry = Entry.Own from targets; view = cut })
MayAppend-IsSnapshot b v w cut from targets snapshot loads known own owner account_in targets_in room enough =
    let here : v.first ≡ w.first = sym (first-HasLoaded b v w loads) in
    let counted : count_of w.first w.seen ≡ (own_part v).published = subst (λ p. count_of p w.seen ≡ (own_part v).published) here loads.own in
    let owns : owns_of v.first w.seen ≡ owns_of v.first v.seen = owns_of-IsPrefix v.first v.seen w.seen loads.more (own ∙ sym loads.own) in
    record {
      view = record {
        process = subst (λ p. p < b.processes) here known;
        cut = snapshot.cut;
        own = subst (λ p. get_or cut p 0 ≡ (own_part v).published) here snapshot.own ∙ sym counted;
      };
      entry = (
        record {
          source_in = account_in;
          single = owner.single;
          owner = subst (λ p. is_owner b p from ≡ true) here owner.owner;
          targets_in = targets_in;
          covered = IsCovered-balance_after b w.seen cut from (amount_of targets) loads.history snapshot.cut account_in enough;
        },
        subst (λ p. owns_of p w.seen < b.own_room) here (omega (arith, owns, room)),
      );
    }

-- what a payment answers by the balance
pub payment_reply-short : (b : BookTerms) (prefix : List Publication) (from : ℕ) (targets : List TargetPair) → balance_after b prefix from < amount_of targets
    → Short ≡ payment_reply b prefix from targets
payment_reply-short b prefix from targets less =
    sym (ap (λ t. cond t Short Done) (lt-ltb (balance_after b prefix from) (amount_of targets) less))

pub payment_reply-done : (b : BookTerms) (prefix : List Publication) (from : ℕ) (targets : List TargetPair) → amount_of targets ≤ balance_after b prefix from
    → Done ≡ payment_reply b prefix from targets
payment_reply-done b prefix from targets enough =
    sym (ap (λ t. cond t Short Done) (le-ltb (balance_after b prefix from) (amount_of targets) enough))
