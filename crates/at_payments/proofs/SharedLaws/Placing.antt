-- Where the receipts of a settled request stand, and why they are right there.
use Rattle.std.proofs.Common.{◌≡◌, ◌⊎◌, ℕ, ◌+◌, ◌*◌, ◌<◌, ◌≤◌, ◌==◌, ◌&&◌, ◌||◌, Bool, true, false, cond, List, length, take, Some, is_some, refl, sym, ap, subst, ◌∙◌, arith, inl, inr}
use Rattle.at_payments.proofs.Prelude.{and_from, cases_Bool, cases_lt, eq-eqb, ne_eqb, get_or-take, get_or_default, length-take, list_any-from_Any, Decision, AccountTerms, is_shared, BookTerms, HasSlot, account_of, is_owner, TargetPair, first_account, Reply, Done, Short, is_single-shared, round-below, publication_at, is_round, settles, IsHistory, IsShownDecision, IsShownRound, no_publication, is_settled, Round, Publication, AgreesOnEntry, AgreesWithSeen, SeesRequest, Knowledge, IsDecidedIn, is_round-true, round_position-at, first_account-payout, IsPlaced, has_no_room, round, asks_in, is_success, owns_in, key_at, round_position, At, Receipt, request_of, IsAnswerOf, HelpingTerms, IsHelpingAt, OnReceipts, StandsAfter, StandsInRound}

-- an owner with a slot shares the account
pub is_shared-HasSlot : (b : BookTerms) (p a slot : ℕ) → HasSlot b p a slot → is_shared (account_of b a) ≡ true
is_shared-HasSlot b p a slot has =
    let t : AccountTerms = account_of b a in
    elim (cases_Bool (is_shared t)) as (λ _. is_shared t ≡ true) [
      | inl on ↦ on
      | inr off ↦ absurd (omega (arith, has.within, ap (λ k. cond k (length t.owners) 0) off))
    ]

pub is_owner-HasSlot : (b : BookTerms) (p a slot : ℕ) → HasSlot b p a slot → is_owner b p a ≡ true
is_owner-HasSlot b p a slot has = ap is_some has.owner

-- a record of the round that decided the own request stands in what the seat has seen
pub record IsSettledBy (z : Knowledge) (h : HelpingTerms) (r : ℕ) (d : Decision) : Type 0 where
  pub position : ℕ
  pub within : position < length z.seen
  pub targets : List TargetPair
  pub entry : (publication_at z.seen position).entry ≡ Round h.account r d targets
  pub slot_is : d.slot ≡ h.own.slot
  pub number_is : d.number ≡ h.own.number

-- such a record in a prefix is one
pub IsSettledBy-IsDecidedIn : (z : Knowledge) (h : HelpingTerms) (r m : ℕ) (d : Decision) → IsDecidedIn (take m z.seen) h.account h.own.slot h.own.number r d
    → IsSettledBy z h r d
IsSettledBy-IsDecidedIn z h r m d in_list =
    let (i, within, is) = in_list.listed in
    let inside : (i < m) × (i < length z.seen) = (omega (arith, within, length-take m z.seen), omega (arith, within, length-take m z.seen)) in
    let here : in_list.publication ≡ publication_at z.seen i =
    sym is ∙ (get_or-take m z.seen i in_list.publication inside.0 ∙ get_or_default z.seen i in_list.publication no_publication inside.1) in
    record {
      position = i;
      within = inside.1;
      targets = in_list.targets;
      entry = sym (ap (λ (x : Publication). x.entry) here) ∙ in_list.entry;
      slot_is = in_list.slot;
      number_is = in_list.number;
    }

pub settles-round : (a slot number r : ℕ) (d : Decision) (targets : List TargetPair) → d.slot ≡ slot → d.number ≡ number
    → settles a slot number (Round a r d targets) ≡ true
settles-round a slot number r d targets slot_is number_is =
    and_from (a == a) ((d.slot == slot) && (d.number == number)) (eq-eqb a a refl)
    (and_from (d.slot == slot) (d.number == number) (eq-eqb d.slot slot slot_is) (eq-eqb d.number number number_is))

-- and the request is settled there
pub is_settled-IsDecidedIn : (list : List Publication) (a slot number r : ℕ) (d : Decision) → IsDecidedIn list a slot number r d
    → is_settled a slot number list ≡ true
is_settled-IsDecidedIn list a slot number r d in_list =
    let (i, within, is) = in_list.listed in
    list_any-from_Any (λ (x : Publication). settles a slot number x.entry) list (
      i,
      in_list.publication,
      within,
      is,
      ap (settles a slot number) in_list.entry ∙ settles-round a slot number r d in_list.targets in_list.slot in_list.number,
    )

module _ (b : BookTerms) (z : Knowledge) (list : List Publication) (h : HelpingTerms) (r : ℕ) (d : Decision) (history : IsHistory b z.seen)
    (agrees : AgreesWithSeen z) (is : IsHelpingAt b z list h) (by : IsSettledBy z h r d) where
  agreed : AgreesOnEntry z (Round h.account r d by.targets)
  agreed = subst (AgreesOnEntry z) by.entry (agrees.records by.position no_publication by.within)

  sees : SeesRequest z h.account d.slot d.number (request_of h.own)
  sees =
      subst (λ s. SeesRequest z h.account s d.number (request_of h.own)) (sym by.slot_is)
      (subst (λ n. SeesRequest z h.account h.own.slot n (request_of h.own)) (sym by.number_is) (is.seen h.own is.own_in))

  targets_are : h.own.targets ≡ by.targets
  targets_are = agreed.1 (request_of h.own) sees

  since_before : h.own.since ≤ d.place
  since_before = agreed.0.since (request_of h.own) sees

  shown : IsShownRound b z.seen h.account r d by.targets
  shown = subst (IsShownDecision b z.seen) by.entry (history.decisions by.position by.within)

  shared : is_shared (account_of b h.account) ≡ true
  shared = is_shared-HasSlot b z.first h.account h.own.slot is.asked.slot_in

  has_room : (earlier : List Receipt) → asks_in h.account earlier ≡ h.own.number → has_no_room b h.account earlier ≡ false
  has_room earlier asks =
      let less : (asks_in h.account earlier == b.request_room) ≡ false =
      ne_eqb (asks_in h.account earlier) b.request_room (λ e. omega (arith, e, asks, is.room)) in
      ap (λ t. (t && (owns_in earlier == b.own_room)) || (is_shared (account_of b h.account) && (asks_in h.account earlier == b.request_room)))
      (is_single-shared b h.account shared)
      ∙ (ap (λ t. t && (asks_in h.account earlier == b.request_room)) shared ∙ less)

  -- the receipts of that round are right
  pub IsPlaced-IsSettledBy : (answer : Reply × At) → IsAnswerOf r d answer → OnReceipts h.account h.own.targets answer
      (λ receipt. (earlier : List Receipt) → asks_in h.account earlier ≡ h.own.number → IsPlaced b z.first z.seen earlier receipt)
  IsPlaced-IsSettledBy answer so call payout earlier asks =
      round h.account h.own.targets
      (record {
        call = payout;
        owner = is_owner-HasSlot b z.first h.account h.own.slot is.asked.slot_in;
        room = has_room earlier asks;
      })
      shared
      (record {
        round = r;
        decision = d;
        position = by.position;
        within = by.within;
        at = so.at;
        entry = by.entry ∙ ap (Round h.account r d) (sym targets_are);
        slot = is.asked.slot_in.owner ∙ ap Some (sym by.slot_is);
        next = by.number_is ∙ sym asks;
        reply = so.reply;
      })

  -- the first record of its round stands at or after the place of the decision
  place_before : d.place ≤ round_position h.account r z.seen
  place_before =
      let pos = round_position h.account r z.seen in
      let here : is_round h.account r (publication_at z.seen by.position).entry ≡ true =
      ap (is_round h.account r) by.entry ∙ and_from (h.account == h.account) (r == r) (eq-eqb h.account h.account refl) (eq-eqb r r refl) in
      let first = round_position-at h.account r z.seen by.position by.within here in
      elim (cases_lt pos d.place) as (λ _. d.place ≤ pos) [
        | inl below ↦
            let form = is_round-true h.account r (publication_at z.seen pos).entry first.here in
            absurd (omega (arith, round-below b z.seen pos d.place h.account r form.0 form.1 history below first.within form.2, shown.next))
        | inr above ↦ above
      ]

  -- so it stands at or after the request's `since`
  pub StandsAfter-IsSettledBy : (answer : Reply × At) → IsAnswerOf r d answer
      → OnReceipts h.account h.own.targets answer (StandsAfter h.own.since z)
  StandsAfter-IsSettledBy answer so call payout previous =
      let moved : Bool = is_success answer.0 in
      let key = ap (key_at z.first z.seen previous call moved) so.at in
      let account : first_account call ≡ h.account = first_account-payout h.account h.own.targets call payout in
      let pos : round_position (first_account call) r z.seen ≡ round_position h.account r z.seen = ap (λ a. round_position a r z.seen) account in
      let choice = λ (t : Bool). cond t (2 * round_position (first_account call) r z.seen + 1) (2 * d.place) in
      elim (cases_Bool moved) as (λ _. 2 * h.own.since ≤ key_at z.first z.seen previous call moved answer.1) [
        | inl on ↦ omega (arith, since_before, place_before, pos, key, ap choice on)
        | inr off ↦ omega (arith, since_before, key, ap choice off)
      ]

-- it stands in that round, done or short
pub StandsInRound-IsAnswerOf : (r : ℕ) (d : Decision) (answer : Reply × At) → IsAnswerOf r d answer → StandsInRound answer
StandsInRound-IsAnswerOf r d answer so = record {
  round = r;
  place = d.place;
  at = so.at;
  reply = elim (cases_Bool d.ok) as (λ _. (answer.0 ≡ Done) ⊎ (answer.0 ≡ Short)) [
    | inl on ↦ inl (so.reply ∙ ap (λ t. cond t Done Short) on)
    | inr off ↦ inr (so.reply ∙ ap (λ t. cond t Done Short) off)
  ];
}
