-- The look that a receipt rests on has seen all that the pass had seen before the call.
use Rattle.std.proofs.Common.{◌≡◌, ℕ, ◌*◌, ◌<◌, ◌≤◌, ◌⊎◌, ◌==◌, ◌&&◌, Bool, true, false, cond, List, [], ◌∷◌, ◌++◌, length, replicate, refl, sym, ap, subst, ◌∙◌, arith, inl, inr}
use Rattle.at_object.proofs.Prelude.{eq-eqb, get_or_push, length-take, length_push, sum_by-replicate, slot_in, BookTerms, HasSlot, account_of, is_owner, TargetPair, first_account, first_account-payout, Call, Pay, Read, Transfer, Done, Full, NotOwner, Short, IsPrefix-length, publication_at, request_at, place, prefix_of, IsShownEntry, no_publication, Publication, Request, AgreesOnEntry, asking_on, own_part, IsKept, Knowledge, look_at, IsAtRound, IsPlaced, read, not_owner, full, short, done, round, asks_in, is_at_round, is_payout_from, At, Receipt, CallMade, PaymentMade, PaysAlone, PaysInRound, PassTerms, IsDecidedByBalance, IsRefused, has_used_up, cut_behind, IsSnapshot}
use Rattle.at_object.proofs.Laws.Within.{read_or_refused}

-- the place of a snapshot's cut is at least what had been seen
pub place-IsSnapshot : (b : BookTerms) (before after : Knowledge) (cut : List ℕ) → IsSnapshot b before after cut → length before.seen ≤ place cut
place-IsSnapshot b before after cut so =
    omega (arith, IsPrefix-length before.seen (prefix_of cut after.seen) so.begins, length-take (place cut) after.seen)

-- the cut behind a receipt is that of its look
pub look-Cut : (v : Knowledge) (at : At) → at ≡ At.Cut (cut_behind v at) → look_at v.first v.seen at ≡ place (cut_behind v at)
look-Cut v at is = ap (look_at v.first v.seen) is

look-Own : (v : Knowledge) (at : At) (number : ℕ) → at ≡ At.Own number → look_at v.first v.seen at ≡ place (cut_behind v at)
look-Own v at number is = ap (look_at v.first v.seen) is ∙ sym (ap (λ a. place (cut_behind v a)) is)

-- so many requests on an account
abbrev asked_before : ℕ → ℕ → List Receipt
asked_before source n = replicate n (record { call = Pay source []; reply = Short; at = At.Round 0 0 })

asks_in-asked_before : (source n : ℕ) → asks_in source (asked_before source n) ≡ n
asks_in-asked_before source n =
    let one : cond (true && (source == source)) 1 0 ≡ 1 = ap (λ t. cond t 1 0) (eq-eqb source source refl) in
    sum_by-replicate (λ (r : Receipt). cond (is_at_round r.at && is_payout_from source r.call) 1 0) n (record { call = Pay source []; reply = Short; at = At.Round 0 0 })
    ∙ (ap (λ k. n * k) one ∙ omega arith)

-- a round that decided a process's request is decided behind what this has counted
module _ (b : BookTerms) (before after : Knowledge) (source : ℕ) (call : Call) (r : Receipt) (paid : PaysInRound b before after source call r)
    (source_is : first_account call ≡ source) (kept : IsKept after) (book : after.book ≡ b) where
  abbrev number : ℕ
  number = length (asking_on (own_part before) source).announced

  since-IsAtRound : (targets : List TargetPair) (on : ℕ) → IsAtRound b after.first after.seen (asked_before source number) on targets r → on ≡ source
      → length before.seen ≤ look_at after.first after.seen r.at
  since-IsAtRound targets on so same =
      let d = so.decision in
      let x : Publication = publication_at after.seen so.position in
      let law = subst (IsShownEntry after.book x.process (prefix_of x.view after.seen)) so.entry (kept.history.entries so.position so.within) in
      let numbered : d.number ≡ number = so.next ∙ (ap (λ a. asks_in a (asked_before source number)) same ∙ asks_in-asked_before source number) in
      let slot : HasSlot after.book after.first on d.slot = record {
        account_in = law.0.account_in;
        within = law.3;
        owner = ap (λ (k : BookTerms). slot_in (account_of k on) after.first) book ∙ so.slot;
      } in
      let agrees = subst (AgreesOnEntry after) so.entry (kept.agrees.records so.position no_publication so.within) in
      let own = (asking_on (own_part after) on).announced in
      let request : Request = paid.asked.request in
      let now : own ≡ (asking_on (own_part before) source).announced ++ request ∷ [] = ap (λ a. (asking_on (own_part after) a).announced) same ∙ paid.asked.announced in
      let there : request_at own d.number ≡ request =
      ap (λ (rs : List Request). request_at rs d.number) now
      ∙ get_or_push (asking_on (own_part before) source).announced request _ d.number (sym numbered) in
      let within : d.number < length own =
      omega (arith, numbered, ap (λ (rs : List Request). length rs) now, length_push (asking_on (own_part before) source).announced request) in
      let least = agrees.0.since (request_at own d.number) (kept.asked on d.slot d.number slot within) in
      omega (arith, paid.asked.since, least, ap (λ (q : Request). q.since) there, ap (look_at after.first after.seen) so.at)

  -- a receipt in a round was placed there
  look-IsPlaced : (at_place at_round : ℕ) → r.at ≡ At.Round at_round at_place → IsPlaced b after.first after.seen (asked_before source number) r
      → length before.seen ≤ look_at after.first after.seen r.at
  look-IsPlaced at_place at_round at (read account amount is reply cut) = absurd (cc (at, cut.at))
  look-IsPlaced at_place at_round at (not_owner on targets is owner reply previous) = absurd (cc (at, previous))
  look-IsPlaced at_place at_round at (full on targets is owner room reply previous) = absurd (cc (at, previous))
  look-IsPlaced at_place at_round at (short on amount targets may single reply cut less) = absurd (cc (at, cut.at))
  look-IsPlaced at_place at_round at (done on targets may single reply own) = absurd (cc (at, own.at))
  look-IsPlaced at_place at_round at (round on targets may shared so) =
      since-IsAtRound targets on so
      (sym (first_account-payout on targets r.call may.call) ∙ (ap first_account paid.call_is ∙ source_is))

  pub look-PaysInRound : length before.seen ≤ look_at after.first after.seen r.at
  look-PaysInRound =
      look-IsPlaced paid.in_round.place paid.in_round.round paid.in_round.at
      (paid.placed (asked_before source number) (asks_in-asked_before source number))

-- one that an account's one owner made stands at its cut, or at its own record
pub look-PaysAlone : (b : BookTerms) (before after : Knowledge) (source : ℕ) (targets : List TargetPair) (call : Call) (r : Receipt)
    → PaysAlone b before after source targets call r → IsDecidedByBalance r → length before.seen ≤ look_at after.first after.seen r.at
look-PaysAlone b before after source targets call r paid (inl is) =
    omega (
      arith,
      place-IsSnapshot b before after (cut_behind after r.at) paid.snapshot,
      look-Own after r.at (own_part before).published (paid.done is).at_own,
    )
look-PaysAlone b before after source targets call r paid (inr is) =
    omega (arith, place-IsSnapshot b before after (cut_behind after r.at) paid.snapshot, look-Cut after r.at (paid.short is).at_cut)

-- a payment is refused, or decided by a balance
pub decided_or_refused : (owner used low : Bool) (r : Receipt) → r.reply ≡ cond owner (cond used Full (cond low Short Done)) NotOwner → IsRefused r ⊎ IsDecidedByBalance r
decided_or_refused false used low r is = inl (inl is)
decided_or_refused true true low r is = inl (inr is)
decided_or_refused true false true r is = inr (inr is)
decided_or_refused true false false r is = inr (inl is)

look-PaymentMade : (b : BookTerms) (before after : PassTerms) (source : ℕ) (targets : List TargetPair) (call : Call) (r : Receipt)
    → PaymentMade b before after source targets call r → (IsRefused r → ⊥)
    → length before.knows.seen ≤ look_at after.knows.first after.knows.seen r.at
look-PaymentMade b before after source targets call r made decided =
    elim (decided_or_refused (is_owner b before.knows.first source) (has_used_up b before source) _ r made.reply) as
    (λ _. length before.knows.seen ≤ look_at after.knows.first after.knows.seen r.at) [
      | inl refused ↦ absurd (decided refused)
      | inr by_balance ↦ made.looked by_balance
    ]

-- of any call that isn't refused
pub look-CallMade : (b : BookTerms) (before after : PassTerms) (call : Call) (r : Receipt) → CallMade b before after call r → (IsRefused r → ⊥)
    → length before.knows.seen ≤ look_at after.knows.first after.knows.seen r.at
look-CallMade b before after (Transfer from to amount) r made decided =
    look-PaymentMade b before after from ((to, amount) ∷ []) (Transfer from to amount) r made decided
look-CallMade b before after (Read account) r made decided = made.looked
look-CallMade b before after (Pay from targets) r made decided = look-PaymentMade b before after from targets (Pay from targets) r made decided

-- and one that is refused stands nowhere
pub refused_at-CallMade : (b : BookTerms) (before after : PassTerms) (call : Call) (r : Receipt) → CallMade b before after call r → IsRefused r
    → r.at ≡ At.Previous
refused_at-CallMade b before after (Transfer from to amount) r made refused = made.refused_at refused
refused_at-CallMade b before after (Read account) r made refused = absurd (read_or_refused r _ made.reply refused)
refused_at-CallMade b before after (Pay from targets) r made refused = made.refused_at refused
