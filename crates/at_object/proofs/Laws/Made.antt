-- What a payment leaves of its pass, whichever way it went.
use Rattle.std.proofs.Common.{◌≡◌, ℕ, ◌+◌, ◌<◌, ◌≤◌, ◌⊎◌, ◌&&◌, ◌||◌, ◌==◌, Bool, true, false, cond, List, ◌∷◌, [], ◌++◌, None, Some, length, refl, sym, ap, subst, ◌∙◌, arith, inl, inr}
use Rattle.at_object.proofs.Prelude.{cases_Bool, is_shared, is_single, BookTerms, HasSlot, account_of, is_owner, TargetPair, first_account, first_account-payout, payout_of, Call, Pay, Read, Transfer, Reply, Done, Short, Full, NotOwner, single_or_shared, prefix_of, IsHistory, own_part, IsKept, Knowledge, length-prefix_of-le, Told-call, asks_in-push_still, owns_in-push, named-IsBetweenCalls, HasMoved, IsBetweenCalls, TotalSums, IsPrefix-refl, one_if, IsPlaced, has_no_room, full, not_owner, asks_in, is_at_own, is_at_round, owns_in, Told, Previous, Receipt, PaysAlone, PaysInRound, PaymentMade, IsPass, PassTerms, Stands, asked_by, PastCall, others_counted, sent_by, IsDecidedByBalance, IsRefused, has_used_up, prefix_before, refusal_in, refusal_of, reply_of, StandsAfter, IsOnlyOwner, cut_behind, payment_reply}
use Rattle.std.specs.Prelude.{slice_index, sum}
use Rattle.at_object.proofs.Laws.Alone.{moved-done, moved-short, nothing-done, nothing-short, reply-done, reply-short, short_or_done, told-done, told-short}
use Rattle.at_object.proofs.Laws.InRound.{asks-round, loads-round, moved-round, placed-round, reply-round, told-round}
use Rattle.at_object.proofs.Laws.Looks.{look-PaysAlone, look-PaysInRound}
use Rattle.at_object.proofs.Laws.Room.{HasSlot-is_owner}

-- no call is both decided and refused
not_both : (r : Receipt) → IsDecidedByBalance r → IsRefused r → ⊥
not_both r (inl done) (inl refused) = let both : Done ≡ NotOwner = sym done ∙ refused in absurd (cc both)
not_both r (inl done) (inr refused) = let both : Done ≡ Full = sym done ∙ refused in absurd (cc both)
not_both r (inr short) (inl refused) = let both : Short ≡ NotOwner = sym short ∙ refused in absurd (cc both)
not_both r (inr short) (inr refused) = let both : Short ≡ Full = sym short ∙ refused in absurd (cc both)

-- what is counted of others never falls, where each own record is counted
pub others-le : (before after : PassTerms) (was now : TotalSums) → slice_index before.counted before.knows.first ≡ (own_part before.knows).published
    → slice_index after.counted after.knows.first ≡ (own_part after.knows).published
    → sum before.counted + (own_part after.knows).published ≤ sum after.counted + (own_part before.knows).published
    → others_counted before ≤ others_counted after
others-le before after was now own_before own_after more = omega (arith, own_before, own_after, more)

module _ (b : BookTerms) (before after : PassTerms) (source : ℕ) (targets : List TargetPair) (call : Call) (r : Receipt) where
  -- a payment that the balance decides
  reply_of-decided : is_owner b before.knows.first source ≡ true → has_used_up b before source ≡ false
      → reply_of b before after source targets r ≡ payment_reply b (prefix_before after r) source targets
  reply_of-decided owner room =
      let decided = payment_reply b (prefix_before after r) source targets in
      ap (λ t. cond t (cond (has_used_up b before source) Full decided) NotOwner) owner ∙ ap (λ t. cond t Full decided) room

  -- a receipt of a call that was decided stands with its pass
  told-pass : before.knows.book ≡ b → after.knows.book ≡ b
      → ((earlier : List Receipt) → Told b before.knows.first before.knows.seen earlier → Told b after.knows.first after.knows.seen (earlier ++ r ∷ []))
      → (earlier : List Receipt) → Stands before earlier → Stands after (earlier ++ r ∷ [])
  told-pass book same_book told earlier stands =
      subst (λ t. Told t after.knows.first after.knows.seen (earlier ++ r ∷ [])) (sym same_book)
      (told earlier (subst (λ t. Told t before.knows.first before.knows.seen earlier) book stands))

  module _ (kept : IsKept before.knows) (keeps : IsKept after.knows) (book : before.knows.book ≡ b) (same_book : after.knows.book ≡ b)
      (was : TotalSums) (sent : ℕ) (pass : IsPass before.knows was sent) (room : has_used_up b before source ≡ false)
      (counted : others_counted before ≤ others_counted after) where
    -- from a single account
    pub PaymentMade-alone : source < length b.accounts → IsOnlyOwner b before.knows.first source
        → PaysAlone b before.knows after.knows source targets call r → PaymentMade b before after source targets call r
    PaymentMade-alone known only paid =
        let v : Knowledge = before.knows in
        let w : Knowledge = after.knows in
        let at_start : (moved : HasMoved b v w) → StandsAfter (length v.seen) w r = λ moved previous.
        omega (arith, paid.after_cut previous, length-prefix_of-le (cut_behind w r.at) v.seen w.seen paid.snapshot.begins) in
        elim (short_or_done b (prefix_of (cut_behind w r.at) w.seen) source targets r.reply paid.reply) as
        (λ _. PaymentMade b before after source targets call r) [
          | inl short ↦
              let moved = moved-short b v w kept keeps book same_book was sent pass source targets call r paid short in
              record {
                call_is = paid.call_is;
                reply = reply-short b v w kept keeps book same_book was sent pass source targets call r paid short ∙ sym (reply_of-decided only.owner room);
                placed = λ earlier stands. paid.placed earlier (sym stands.owns);
                stands = told-pass book same_book (λ earlier told.
                    told-short b v w kept keeps book same_book was sent pass source targets call r paid short earlier told (paid.placed earlier (sym told.owns)));
                after_seen = λ decided. at_start moved;
                looked = look-PaysAlone b v w source targets call r paid;
                loads = λ decided. paid.snapshot.fresh.loaded;
                alone = λ decided single. paid;
                in_round = λ decided shared. absurd (single_or_shared (account_of b source) only.single shared);
                begins = moved.more;
                process_is = moved.process;
                refused = λ refused. absurd (not_both r (inr short) refused);
                refused_at = λ refused. absurd (not_both r (inr short) refused);
                asked_elsewhere = λ a apart. ap length
                    ((nothing-short b v w kept keeps book same_book was sent pass source targets call r paid short).same a);
                counted = counted;
              }
          | inr done ↦
              let moved = moved-done b v w kept keeps book same_book was sent pass source targets call r paid done in
              record {
                call_is = paid.call_is;
                reply = reply-done b v w kept keeps book same_book was sent pass source targets call r paid done known
                    ∙ sym (reply_of-decided only.owner room);
                placed = λ earlier stands. paid.placed earlier (sym stands.owns);
                stands = told-pass book same_book (λ earlier told.
                    told-done b v w kept keeps book same_book was sent pass source targets call r paid done earlier told (paid.placed earlier (sym told.owns)));
                after_seen = λ decided. at_start moved;
                looked = look-PaysAlone b v w source targets call r paid;
                loads = λ decided. paid.snapshot.fresh.loaded;
                alone = λ decided single. paid;
                in_round = λ decided shared. absurd (single_or_shared (account_of b source) only.single shared);
                begins = moved.more;
                process_is = moved.process;
                refused = λ refused. absurd (not_both r (inl done) refused);
                refused_at = λ refused. absurd (not_both r (inl done) refused);
                asked_elsewhere = λ a apart. ap length
                    ((nothing-done b v w kept keeps book same_book was sent pass source targets call r paid done).same a);
                counted = counted;
              }
        ]

    -- from a shared account
    pub PaymentMade-round : (slot : ℕ) → HasSlot b before.knows.first source slot → is_owner b before.knows.first source ≡ true
        → is_shared (account_of b source) ≡ true → PaysInRound b before.knows after.knows source call r
        → payout_of r.call ≡ Some (source, targets) → PaymentMade b before after source targets call r
    PaymentMade-round slot has owner shared paid payout =
        let v : Knowledge = before.knows in
        let w : Knowledge = after.knows in
        let moved = moved-round b v w kept keeps book same_book was sent pass source slot has call r paid in
        let decided : IsDecidedByBalance r = paid.in_round.reply in
        record {
          call_is = paid.call_is;
          reply = reply-round b v w kept keeps book same_book was sent pass source slot has call r paid targets payout
              ∙ sym (reply_of-decided owner room);
          placed = λ earlier stands. placed-round b v w kept keeps book same_book was sent pass source slot has call r paid earlier
              (subst (λ t. Told t v.first v.seen earlier) book stands);
          stands = told-pass book same_book (told-round b v w kept keeps book same_book was sent pass source slot has call r paid targets payout);
          after_seen = λ _. paid.after_start;
          looked = λ _. look-PaysInRound b v w source call r paid
              (ap first_account (sym paid.call_is) ∙ first_account-payout source targets r.call payout) keeps same_book;
          loads = λ _. loads-round b v w kept keeps book same_book was sent pass source slot has call r paid;
          alone = λ _ single. absurd (single_or_shared (account_of b source) single shared);
          in_round = λ _ _. paid;
          begins = moved.more;
          process_is = moved.process;
          refused = λ refused. absurd (not_both r decided refused);
          refused_at = λ refused. absurd (not_both r decided refused);
          asked_elsewhere = λ a apart. ap length
              ((asks-round b v w kept keeps book same_book was sent pass source slot has call r paid).elsewhere a apart);
          counted = counted;
        }

-- a payment is refused for its source
pub refusal_in-payout : (b : BookTerms) (source : ℕ) (targets : List TargetPair) (before : PassTerms) (call : Call) → payout_of call ≡ Some (source, targets)
    → refusal_in b before call ≡ refusal_of b before source
refusal_in-payout b source targets before (Transfer from to amount) payout = ap (λ a. refusal_of b before a) (first_account-payout source targets (Transfer from to amount) payout)
refusal_in-payout b source targets before (Read account) payout = absurd (cc payout)
refusal_in-payout b source targets before (Pay from amounts) payout = ap (λ a. refusal_of b before a) (first_account-payout source targets (Pay from amounts) payout)

-- why a call is refused, and what it then answers
refused_cases : (owner used : Bool) (decided reply : Reply) → cond owner (cond used (Some Full) None) (Some NotOwner) ≡ Some reply
    → (reply ≡ cond owner (cond used Full decided) NotOwner) × (((owner ≡ false) × (reply ≡ NotOwner)) ⊎ ((owner ≡ true) × (used ≡ true) × (reply ≡ Full)))
refused_cases true true decided reply is = let same : Full ≡ reply = cc is in (sym same, inr (refl, refl, sym same))
refused_cases true false decided reply is = absurd (cc is)
refused_cases false used decided reply is = let same : NotOwner ≡ reply = cc is in (sym same, inl (refl, sym same))

module _ (b : BookTerms) (before : PassTerms) (source : ℕ) (kept : IsKept before.knows) (book : before.knows.book ≡ b)
    (between : IsBetweenCalls b before.knows) (known : source < length b.accounts) where
  -- a pass that has used up its room has so by the receipts that stand with it
  no_room-used_up : (earlier : List Receipt) → Told b before.knows.first before.knows.seen earlier → is_owner b before.knows.first source ≡ true
      → has_used_up b before source ≡ true → has_no_room b source earlier ≡ true
  no_room-used_up earlier told owner used =
      let single = is_single (account_of b source) in
      let shared = is_shared (account_of b source) in
      let owns : (single && (sent_by before == b.own_room)) ≡ (single && (owns_in earlier == b.own_room)) =
      ap (λ n. single && (n == b.own_room)) told.owns in
      let asks : (shared && (asked_by before source == b.request_room)) ≡ (shared && (asks_in source earlier == b.request_room)) =
      elim (cases_Bool shared) as (λ _. (shared && (asked_by before source == b.request_room)) ≡ (shared && (asks_in source earlier == b.request_room))) [
        | inl is ↦
            let here = HasSlot-is_owner b before.knows.first source known is owner in
            ap (λ n. shared && (n == b.request_room))
            (sym (named-IsBetweenCalls b before.knows source here.0 kept book between here.1) ∙ told.asks source here.0 here.1)
        | inr is ↦
            ap (λ t. t && (asked_by before source == b.request_room)) is ∙ sym (ap (λ t. t && (asks_in source earlier == b.request_room)) is)
      ] in
      sym (ap (λ t. t || (shared && (asked_by before source == b.request_room))) owns ∙ ap (λ t. (single && (owns_in earlier == b.own_room)) || t) asks) ∙ used

  -- a refused call, after which so many calls were made, these
  module _ (targets : List TargetPair) (call : Call) (r : Receipt) (calls : ℕ) (past : List PastCall) (call_is : r.call ≡ call) (at : r.at ≡ Previous)
      (payout : payout_of call ≡ Some (source, targets)) (because : refusal_of b before source ≡ Some r.reply) where
    abbrev after : PassTerms
    after = record before { calls = calls; past = past }

    cases : (r.reply ≡ reply_of b before after source targets r)
        × (((is_owner b before.knows.first source ≡ false) × (r.reply ≡ NotOwner))
        ⊎ ((is_owner b before.knows.first source ≡ true) × (has_used_up b before source ≡ true) × (r.reply ≡ Full)))
    cases =
        refused_cases (is_owner b before.knows.first source) (has_used_up b before source) (payment_reply b (prefix_before after r) source targets) r.reply because

    refused : IsRefused r
    refused = elim cases.1 as (λ _. IsRefused r) [ inl other ↦ inl other.1 | inr used ↦ inr used.2 ]

    payout_is : payout_of r.call ≡ Some (source, targets)
    payout_is = ap payout_of call_is ∙ payout

    placed-refused : (earlier : List Receipt) → Told b before.knows.first before.knows.seen earlier
        → IsPlaced b before.knows.first before.knows.seen earlier r
    placed-refused earlier told =
        elim cases.1 as (λ _. IsPlaced b before.knows.first before.knows.seen earlier r) [
          | inl other ↦ not_owner source targets payout_is other.0 other.1 at
          | inr used ↦ full source targets payout_is used.0 (no_room-used_up earlier told used.0 used.1) used.2 at
        ]

    told-refused : (earlier : List Receipt) → Told b before.knows.first before.knows.seen earlier
        → Told b before.knows.first before.knows.seen (earlier ++ r ∷ [])
    told-refused earlier told =
        Told-call b before.knows.first before.knows.seen before.knows.seen earlier r (subst (λ t. IsHistory t before.knows.seen) book kept.history)
        (IsPrefix-refl before.knows.seen) told (placed-refused earlier told) (inl at)
        (omega (arith, told.owns, owns_in-push earlier r, ap one_if (ap is_at_own at)))
        (λ a slot has. omega (arith, told.asks a slot has, asks_in-push_still a earlier r (ap is_at_round at)))

    pub PaymentMade-refused : PaymentMade b before after source targets call r
    PaymentMade-refused = record {
      call_is = call_is;
      reply = cases.0;
      placed = λ earlier stands. placed-refused earlier (subst (λ t. Told t before.knows.first before.knows.seen earlier) book stands);
      stands = λ earlier stands. subst (λ t. Told t before.knows.first before.knows.seen (earlier ++ r ∷ [])) (sym book)
          (told-refused earlier (subst (λ t. Told t before.knows.first before.knows.seen earlier) book stands));
      after_seen = λ decided. absurd (not_both r decided refused);
      looked = λ decided. absurd (not_both r decided refused);
      loads = λ decided. absurd (not_both r decided refused);
      alone = λ decided. absurd (not_both r decided refused);
      in_round = λ decided. absurd (not_both r decided refused);
      begins = IsPrefix-refl before.knows.seen;
      process_is = refl;
      refused = λ _. refl;
      refused_at = λ _. at;
      asked_elsewhere = λ a apart. refl;
      counted = omega arith;
    }
