-- What a call leaves of its pass, whichever way it was made.
use Rattle.std.proofs.Common.{◌≡◌, ◌≢◌, ℕ, ◌+◌, ◌*◌, ◌<◌, ◌≤◌, Bool, true, false, cond, List, [], ◌∷◌, length, None, Some, refl, sym, ap, subst, ◌∙◌, arith, inl, inr}
use Rattle.at_calling.proofs.Prelude.{cases_Bool, get_or-le-sum_by, is_shared, is_single, slots_of, BookTerms, HasSlot, account_of, is_owner, AreTargetsOn, IsCallOn, TargetPair, first_account, payout_of, Call, Pay, Read, Transfer, Reply, Balance, Done, Full, NotOwner, Short, single_or_shared, IsPrefix-refl, place, IsHistory, owns_of, raised, IsKept, SeatTerms, MayStoreRequest, record_width, Knowledge, Asking, RECORD_WORDS, StandsBehind-cut, length-prefix_of-le, IsBetweenCalls, HasCounted, StaysCounted, TotalSums, first_account-payout, same_payout, is_at_own, is_at_round, key_of, Receipt, IsPass-alone, asking-alone, decided-alone, IsPass-round, IsPass-HasLoaded, between-IsPass, Told-HasLoaded, asking-HasLoaded, owns_of-HasLoaded, look-Cut, place-IsSnapshot, PaymentMade-alone, PaymentMade-round, others-le, IsOfOnePass-counted, HasSlot-is_owner, MayStoreRequest-room, sent-room, with_one_call, PaysAlone, PaysInRound, PaymentMade, IsOfOnePass, pass_of, IsPass, PassTerms, counted_anew, others_counted, IsDecidedByBalance, IsRefused, has_used_up, payment_steps, refusal_of, sent_after, shared_steps, single_steps, Rest, HasAllSettled, decides_made, decides_on, cut_behind, snapshot_steps, process-CallMade, AreTargetsOn-single, call_steps-payout, may_exchange-payout, read_or_refused, refusal_in, CallMade, ReadMade, StaysWithin, call_steps, may_exchange, HasSameAsking, append_steps, DecidesFew, settling_steps, IsReadOf, LeavesTotals, refusal_in-payout}
use Rattle.std.specs.Prelude.{slice_index, sum}
use Rattle.at_payments.specs.Standing as single

-- no call is both decided and refused
pub decided_or_refused : (r : Receipt) → IsDecidedByBalance r → IsRefused r → ⊥
decided_or_refused r (inl done) (inl refused) = let both : Done ≡ NotOwner = sym done ∙ refused in absurd (cc both)
decided_or_refused r (inl done) (inr refused) = let both : Done ≡ Full = sym done ∙ refused in absurd (cc both)
decided_or_refused r (inr short) (inl refused) = let both : Short ≡ NotOwner = sym short ∙ refused in absurd (cc both)
decided_or_refused r (inr short) (inr refused) = let both : Short ≡ Full = sym short ∙ refused in absurd (cc both)

-- why a payment is not refused
pub refusal_of-None : (owner used : Bool) → cond owner (cond used (Some Full) None) (Some NotOwner) ≡ None → (owner ≡ true) × (used ≡ false)
refusal_of-None true true is = absurd (cc is)
refusal_of-None true false is = (refl, refl)
refusal_of-None false used is = absurd (cc is)

-- what a payment that isn't refused may do
module _ (b : BookTerms) (seat : SeatTerms) (rest : Rest) (source : ℕ) (kept : IsKept seat.knows) (book : seat.knows.book ≡ b)
    (pass : IsOfOnePass seat rest) (may : refusal_of b (pass_of seat rest) source ≡ None) where
  abbrev allowed : (is_owner b seat.knows.first source ≡ true) × (has_used_up b (pass_of seat rest) source ≡ false)
  allowed = refusal_of-None (is_owner b seat.knows.first source) (has_used_up b (pass_of seat rest) source) may

  pub owner-refusal_of : is_owner b seat.knows.first source ≡ true
  owner-refusal_of = allowed.0

  between : IsBetweenCalls b seat.knows
  between = between-IsPass b seat.knows rest.totals rest.sent book pass.pass

  pub room-refusal_of : is_single (account_of b source) ≡ true → owns_of seat.knows.first seat.knows.seen < b.own_room
  room-refusal_of single =
      sent-room b (pass_of seat rest) source single allowed.1
      (omega (arith, kept.history.own_room seat.knows.first, ap (λ (t : BookTerms). t.own_room) book))

  pub small-refusal_of : is_single (account_of b source) ≡ true → rest.sent < 4096
  small-refusal_of single =
      omega (arith, room-refusal_of single, pass.pass.sent_is, kept.book.begun.own_room, ap (λ (t : BookTerms). t.own_room) book)

  pub asks-refusal_of : source < length b.accounts → is_shared (account_of b source) ≡ true → (slot : ℕ) × MayStoreRequest b seat.knows source slot
  asks-refusal_of known shared =
      let has = HasSlot-is_owner b seat.knows.first source known shared allowed.0 in (
        has.0,
        MayStoreRequest-room b (pass_of seat rest) source has.0 (subst (λ t. IsHistory t seat.knows.seen) book kept.history) between has.1 shared allowed.1,
      )

  pub settled-refusal_of : HasAllSettled b seat.knows source
  settled-refusal_of = λ slot number has below. between.settled source slot number has below

module _ (b : BookTerms) (source : ℕ) (targets : List TargetPair) where
  -- what a payment is by its call
  pub CallMade-payout : (before after : PassTerms) (call : Call) (r : Receipt) → payout_of call ≡ Some (source, targets)
      → PaymentMade b before after source targets call r → CallMade b before after call r
  CallMade-payout before after (Transfer from to amount) r payout made =
      subst (λ (x : ℕ × List TargetPair). PaymentMade b before after x.0 x.1 (Transfer from to amount) r)
      (sym (same_payout (from, (to, amount) ∷ []) (source, targets) payout)) made
  CallMade-payout before after (Read account) r payout made = absurd (cc payout)
  CallMade-payout before after (Pay from ts) r payout made =
      subst (λ (x : ℕ × List TargetPair). PaymentMade b before after x.0 x.1 (Pay from ts) r) (sym (same_payout (from, ts) (source, targets) payout)) made

-- the steps of a payment from an account of one owner
pub payment_steps-single : (b : BookTerms) (source : ℕ) → is_single (account_of b source) ≡ true → payment_steps b source ≡ single_steps b.processes
payment_steps-single b source single =
    elim (cases_Bool (is_shared (account_of b source))) as (λ _. payment_steps b source ≡ single_steps b.processes) [
      | inl shared ↦ absurd (single_or_shared (account_of b source) single shared)
      | inr other ↦ ap (λ t. cond t (shared_steps b.processes (slots_of (account_of b source))) (single_steps b.processes)) other
    ]

pub payment_steps-shared : (b : BookTerms) (source : ℕ) → is_shared (account_of b source) ≡ true
    → payment_steps b source ≡ shared_steps b.processes (slots_of (account_of b source))
payment_steps-shared b source shared =
    ap (λ t. cond t (shared_steps b.processes (slots_of (account_of b source))) (single_steps b.processes)) shared

-- an append has few steps
pub append_steps-le : (width : ℕ) (reply : Reply) → append_steps width reply ≤ width + 1
append_steps-le width Done = omega arith
append_steps-le width Short = omega arith
append_steps-le width NotOwner = omega arith
append_steps-le width Full = omega arith
append_steps-le width (Balance amount) = omega arith

-- what stays counted is counted
pub HasCounted-StaysCounted : (b : BookTerms) (v : Knowledge) (now : TotalSums) → StaysCounted now b v.seen → HasCounted now b v.seen
HasCounted-StaysCounted b v now stays = stays v.seen (IsPrefix-refl v.seen)

-- so many steps over all turns are few, and none where the call is refused. So many exchanges are those that were decided on the account
-- that the call names first, at most one for each owner, and on other accounts there are none
pub record MakesWithin (b : BookTerms) (before after : PassTerms) (call : Call) (steps exchanges : ℕ) (r : Receipt) : Type 0 where
  pub few : steps ≤ call_steps b call + RECORD_WORDS * counted_anew before after
  pub refused : IsRefused r → steps ≡ 0
  pub decided : exchanges ≡ decides_made (first_account call) before.knows after.knows
  pub none : may_exchange b call ≡ false → exchanges ≡ 0
  pub few_decided : exchanges ≤ slots_of (account_of b (first_account call))
  pub decides_elsewhere : (a : ℕ) → a ≢ first_account call → decides_on after.knows a ≡ decides_on before.knows a

-- so the pass has made as many, where its seat has counted them
pub StaysWithin-MakesWithin : (b : BookTerms) (before after : PassTerms) (call : Call) (steps exchanges : ℕ) (r : Receipt)
    → MakesWithin b before after call steps exchanges r → after.steps ≡ raised before.steps steps → after.exchanges ≡ raised before.exchanges exchanges
    → StaysWithin b before after call r
StaysWithin-MakesWithin b before after call steps exchanges r makes made exchanged = record {
  few = omega (arith, makes.few, made);
  risen = omega (arith, made);
  refused = λ refused. omega (arith, makes.refused refused, made);
  decided = exchanged ∙ ap (raised before.exchanges) makes.decided;
  none = λ no. omega (arith, exchanged, makes.none no);
  few_decided = omega (arith, makes.few_decided, makes.decided);
  decides_elsewhere = makes.decides_elsewhere;
}

module _ (b : BookTerms) (start : SeatTerms) (was : Rest) (seat : SeatTerms) (rest : Rest) (kept : IsKept start.knows) (keeps : IsKept seat.knows)
    (book : start.knows.book ≡ b) (same_book : seat.knows.book ≡ b) (same_board : seat.board ≡ start.board) (pass : IsOfOnePass start was) where
  abbrev before : PassTerms
  before = pass_of start was

  abbrev after : PassTerms
  after = pass_of seat rest

  abbrev v : Knowledge
  v = start.knows

  abbrev w : Knowledge
  w = seat.knows

  module _ (more_steps turns : ℕ) (leaves : LeavesTotals b v w was.totals rest.totals more_steps turns) where
    pub others_counted-LeavesTotals : others_counted before ≤ others_counted after
    others_counted-LeavesTotals = others-le before after was.totals rest.totals pass.pass.own_counted leaves.own_counted leaves.more

    -- what was counted before of the own records is among all that was counted
    own_among : slice_index was.totals.upto v.first ≤ sum was.totals.upto
    own_among =
        get_or-le-sum_by (λ (n : ℕ). n) was.totals.upto v.first 0
        (omega (arith, kept.known, pass.pass.counted.processes))

    newly : single.newly_counted v w was.totals rest.totals ≤ counted_anew before after
    newly = omega (arith, own_among, pass.pass.own_counted, leaves.own_counted, leaves.more)

    pub few-LeavesTotals : turns ≤ snapshot_steps b.processes + more_steps + RECORD_WORDS * counted_anew before after
    few-LeavesTotals = omega (arith, leaves.few, newly)

    -- a call that decides nothing on any account
    pub MakesWithin-LeavesTotals : (call : Call) (r : Receipt) → (IsRefused r → ⊥) → HasSameAsking v w
        → snapshot_steps b.processes + more_steps ≤ call_steps b call → MakesWithin b before after call turns 0 r
    MakesWithin-LeavesTotals call r decided asks within = record {
      few = omega (arith, few-LeavesTotals, within);
      refused = λ refused. absurd (decided refused);
      decided = omega (arith, ap (λ (t : Asking). t.decides) (asks (first_account call)));
      none = λ no. refl;
      few_decided = omega arith;
      decides_elsewhere = λ a apart. ap (λ (t : Asking). t.decides) (asks a);
    }

    module _ (account : ℕ) (r : Receipt) (read : IsReadOf b v w account r) where
      first : w.first ≡ v.first
      first = ap (λ (t : Knowledge). t.first) read.at_cut.loads.same

      abbrev cut : List ℕ
      cut = cut_behind w r.at

      pub ReadMade-IsReadOf : ReadMade b before after account r
      ReadMade-IsReadOf = record {
        call_is = read.call;
        at_cut = read.at_cut.at_cut;
        reply = read.reply;
        snapshot = read.snapshot;
        placed = λ earlier stands. read.placed earlier;
        stands = λ earlier stands.
            Told-HasLoaded b v w kept keeps book same_book read.at_cut.loads was.totals rest.totals was.sent pass.pass earlier r stands
            (read.placed earlier)
            (StandsBehind-cut v.first v.seen w.seen r cut read.snapshot.begins
            (λ previous. subst (λ p. 2 * place cut ≤ key_of p w.seen previous r) first (read.after_cut previous)))
            (ap is_at_own read.at_cut.at_cut) (ap is_at_round read.at_cut.at_cut);
        after_seen = λ previous. omega (arith, read.after_cut previous, length-prefix_of-le cut v.seen w.seen read.snapshot.begins);
        looked = omega (arith, place-IsSnapshot b v w cut read.snapshot, look-Cut w r.at read.at_cut.at_cut);
        begins = read.at_cut.loads.more;
        history = read.at_cut.loads.history;
        process_is = first;
        asked = λ a. ap (λ (t : Asking). length t.announced) (asking-HasLoaded b v w kept keeps book same_book read.at_cut.loads a);
        sent = ap (λ p. owns_of p w.seen) first
            ∙ owns_of-HasLoaded b v w kept keeps book same_book read.at_cut.loads was.totals rest.totals was.sent pass.pass;
        counted = others_counted-LeavesTotals;
      }

      pub IsOfOnePass-IsReadOf : StaysCounted rest.totals b w.seen → rest.sent ≡ was.sent
          → rest.calls ≡ with_one_call start seat rest.totals r was.calls → IsOfOnePass seat rest
      IsOfOnePass-IsReadOf stays sent calls =
          IsOfOnePass-counted start seat r was rest calls
          (subst (IsPass w rest.totals) (sym sent)
          (IsPass-HasLoaded b v w kept keeps book same_book read.at_cut.loads was.totals rest.totals was.sent pass.pass
          (HasCounted-StaysCounted b w rest.totals stays) leaves.own_counted))

      pub asks-IsReadOf : HasSameAsking v w
      asks-IsReadOf = asking-HasLoaded b v w kept keeps book same_book read.at_cut.loads

      pub MakesWithin-IsReadOf : more_steps ≡ 0 → MakesWithin b before after (Read account) turns 0 r
      MakesWithin-IsReadOf none =
          MakesWithin-LeavesTotals (Read account) r (read_or_refused r _ read.reply) asks-IsReadOf (omega (arith, none))

    -- a payment from an account of one owner
    module _ (source : ℕ) (targets : List TargetPair) (call : Call) (r : Receipt) (paid : PaysAlone b v w source targets call r)
        (payout : payout_of call ≡ Some (source, targets)) (single : is_single (account_of b source) ≡ true)
        (may : refusal_in b before call ≡ None) where
      abbrev why_not : (is_owner b v.first source ≡ true) × (has_used_up b before source ≡ false)
      why_not =
          refusal_of-None (is_owner b v.first source) (has_used_up b before source) (sym (refusal_in-payout b source targets before call payout) ∙ may)

      pub CallMade-PaysAlone : source < length b.accounts → CallMade b before after call r
      CallMade-PaysAlone known =
          CallMade-payout b source targets before after call r payout
          (PaymentMade-alone b before after source targets call r kept keeps book same_book was.totals was.sent pass.pass why_not.1
          others_counted-LeavesTotals known (record { single = single; owner = why_not.0 }) paid)

      pub IsOfOnePass-PaysAlone : source < length b.accounts → StaysCounted rest.totals b w.seen → rest.sent ≡ sent_after was.sent r.reply
          → rest.calls ≡ with_one_call start seat rest.totals r was.calls → IsOfOnePass seat rest
      IsOfOnePass-PaysAlone known stays sent calls =
          IsOfOnePass-counted start seat r was rest calls
          (subst (IsPass w rest.totals) (sym sent)
          (IsPass-alone b v w kept keeps book same_book was.totals was.sent pass.pass source targets call r paid rest.totals
          (HasCounted-StaysCounted b w rest.totals stays) leaves.own_counted))

      pub MakesWithin-PaysAlone : more_steps ≡ append_steps (record_width b) r.reply → MakesWithin b before after call turns 0 r
      MakesWithin-PaysAlone most =
          MakesWithin-LeavesTotals call r
          (decided_or_refused r (decided-alone b v w kept keeps book same_book was.totals was.sent pass.pass source targets call r paid))
          (asking-alone b v w kept keeps book same_book was.totals was.sent pass.pass source targets call r paid)
          (omega (
            arith,
            most,
            append_steps-le (record_width b) r.reply,
            call_steps-payout b source targets call payout,
            payment_steps-single b source single,
          ))

    -- a payment from a shared account
    module _ (source : ℕ) (targets : List TargetPair) (call : Call) (r : Receipt) (paid : PaysInRound b v w source call r)
        (payout : payout_of call ≡ Some (source, targets)) (shared : is_shared (account_of b source) ≡ true)
        (may : refusal_in b before call ≡ None) (known : source < length b.accounts) where
      abbrev why_allowed : (is_owner b v.first source ≡ true) × (has_used_up b before source ≡ false)
      why_allowed =
          refusal_of-None (is_owner b v.first source) (has_used_up b before source) (sym (refusal_in-payout b source targets before call payout) ∙ may)

      abbrev slot : (s : ℕ) × HasSlot b v.first source s
      slot = HasSlot-is_owner b v.first source known shared why_allowed.0

      pub CallMade-PaysInRound : CallMade b before after call r
      CallMade-PaysInRound =
          CallMade-payout b source targets before after call r payout
          (PaymentMade-round b before after source targets call r kept keeps book same_book was.totals was.sent pass.pass why_allowed.1
          others_counted-LeavesTotals slot.0 slot.1 why_allowed.0 shared paid (ap payout_of paid.call_is ∙ payout))

      pub IsOfOnePass-PaysInRound : HasCounted rest.totals b w.seen → rest.sent ≡ was.sent
          → rest.calls ≡ with_one_call start seat rest.totals r was.calls → IsOfOnePass seat rest
      IsOfOnePass-PaysInRound counted sent calls =
          IsOfOnePass-counted start seat r was rest calls
          (subst (IsPass w rest.totals) (sym sent)
          (IsPass-round b v w kept keeps book same_book was.totals was.sent pass.pass source slot.0 slot.1 call r paid rest.totals counted leaves.own_counted))

      pub MakesWithin-PaysInRound : (exchanges : ℕ) → more_steps ≡ settling_steps b source → DecidesFew b v w source
          → exchanges ≡ decides_made source v w → MakesWithin b before after call turns exchanges r
      MakesWithin-PaysInRound exchanges most few decided =
          let first = first_account-payout source targets call payout in
          record {
            few = omega (
              arith,
              few-LeavesTotals,
              most,
              call_steps-payout b source targets call payout,
              payment_steps-shared b source shared,
            );
            refused = λ refused. absurd (decided_or_refused r paid.in_round.reply refused);
            decided = decided ∙ ap (λ a. decides_made a v w) (sym first);
            none = λ no. let both : false ≡ true = sym no ∙ (may_exchange-payout b source targets call payout ∙ shared) in absurd (cc both);
            few_decided = subst (λ a. exchanges ≤ slots_of (account_of b a)) (sym first) (omega (arith, decided, few.few));
            decides_elsewhere = λ a apart. few.elsewhere a (λ same. apart (same ∙ sym first));
          }

-- the source and the targets of a payment on accounts that are there are among them
pub payout-IsCallOn : (accounts source : ℕ) (targets : List TargetPair) (call : Call) → payout_of call ≡ Some (source, targets) → IsCallOn accounts call
    → (source < accounts) × AreTargetsOn accounts targets
payout-IsCallOn accounts source targets (Transfer from to amount) payout known =
    subst (λ (x : ℕ × List TargetPair). (x.0 < accounts) × AreTargetsOn accounts x.1)
    (same_payout (from, (to, amount) ∷ []) (source, targets) payout) (known.0, AreTargetsOn-single accounts to amount known.1)
payout-IsCallOn accounts source targets (Read account) payout known = absurd (cc payout)
payout-IsCallOn accounts source targets (Pay from ts) payout known =
    subst (λ (x : ℕ × List TargetPair). (x.0 < accounts) × AreTargetsOn accounts x.1) (same_payout (from, ts) (source, targets) payout) known

-- what is no payment is a read
pub Read-payout_of : (call : Call) → payout_of call ≡ None → call ≡ Read (first_account call)
Read-payout_of (Transfer from to amount) none = absurd (cc none)
Read-payout_of (Read account) none = refl
Read-payout_of (Pay from targets) none = absurd (cc none)
