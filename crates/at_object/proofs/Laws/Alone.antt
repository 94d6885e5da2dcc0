-- What a payment from a single account leaves of its pass.
use Rattle.std.proofs.Common.{◌≡◌, ◌⊎◌, ℕ, ◌+◌, ◌*◌, ◌<◌, ◌≤◌, List, ◌∷◌, [], ◌++◌, length, take, refl, sym, ap, subst, ◌∙◌, arith, inl, inr}
use Rattle.at_object.proofs.Prelude.{cases_lt, get_or-set_same, length-set, BookTerms, HasSlot, TargetPair, amount_of, Call, Reply, Done, Short, IsPrefix-append, IsPrefix-trans, balance_after, publication_at, place, prefix_of, held_after, AreRuns, IsPrefix, publications_of, owns_of, Publication, asking_on, no_part, own_part, IsKept, with_record, Knowledge, Part, StandsBehind, StandsBehind-cut, AsksNothing, HasMoved, IsBetweenCalls-own, IsBetweenCalls-still, PublishesOwn, Told-call_own, Told-call_still, owns_of-own, owns_of-still, IsBetweenCalls, HasCounted, TotalSums, IsLast-Publishes, IsLast, IsPlaced, is_at_own, is_at_round, is_success, Told, key_of, own_position, Receipt, PaysAlone, IsPass, IsDecidedByBalance, place_at, sent_after, payment_reply-done, payment_reply-short, StandsAtCut, StandsAtOwn, cut_behind, own_record, payment_reply}
use Rattle.std.specs.Prelude.{slice_index}
use Rattle.at_object.proofs.Laws.Covered.{covered-own}
use Rattle.at_object.proofs.Laws.Looked.{asking-HasLoaded, AsksNothing-HasLoaded, between-IsPass, own_part-HasLoaded, published-HasLoaded}

-- a payment is short or done
pub short_or_done : (b : BookTerms) (prefix : List Publication) (source : ℕ) (targets : List TargetPair) (reply : Reply)
    → reply ≡ payment_reply b prefix source targets → (reply ≡ Short) ⊎ (reply ≡ Done)
short_or_done b prefix source targets reply is =
    elim (cases_lt (balance_after b prefix source) (amount_of targets)) as (λ _. (reply ≡ Short) ⊎ (reply ≡ Done)) [
      | inl less ↦ inl (is ∙ sym (payment_reply-short b prefix source targets less))
      | inr enough ↦ inr (is ∙ sym (payment_reply-done b prefix source targets enough))
    ]

-- the pass's type holds again where its process is between calls
pub IsPass-HasMoved : (b : BookTerms) (v w : Knowledge) (was now : TotalSums) (sent sends : ℕ) → HasMoved b v w → IsBetweenCalls b w
    → HasCounted now b w.seen → slice_index now.upto w.first ≡ (own_part w).published → sends ≡ owns_of v.first w.seen
    → ((a : ℕ) → ((slot : ℕ) → HasSlot b v.first a slot → ⊥) → (asking_on (own_part w) a).announced ≡ []) → IsPass w now sends
IsPass-HasMoved b v w was now sent sends moved between counted own_counted sends_is unasked = record {
  between = subst (λ t. IsBetweenCalls t w) (sym moved.book_after) between;
  counted = subst (λ t. HasCounted now t w.seen) (sym moved.book_after) counted;
  own_counted = own_counted;
  sent_is = sends_is ∙ ap (λ p. owns_of p w.seen) (sym moved.process);
  unasked = λ a none. unasked a (λ slot has. none slot
      (subst (λ t. HasSlot t w.first a slot) (sym moved.book_after) (subst (λ p. HasSlot b p a slot) (sym moved.process) has)));
}

module _ (b : BookTerms) (v w : Knowledge) (kept : IsKept v) (keeps : IsKept w) (book : v.book ≡ b) (same_book : w.book ≡ b)
    (was : TotalSums) (sent : ℕ) (pass : IsPass v was sent) (source : ℕ) (targets : List TargetPair) (call : Call) (r : Receipt)
    (paid : PaysAlone b v w source targets call r) where
  between : IsBetweenCalls b v
  between = between-IsPass b v was sent book pass

  part : 0 < length v.parts
  part = omega (arith, kept.one_part)

  abbrev cut : List ℕ
  cut = cut_behind w r.at

  behind-from : w.first ≡ v.first → StandsBehind v.first v.seen w.seen r
  behind-from first =
      StandsBehind-cut v.first v.seen w.seen r cut paid.snapshot.begins
      (λ previous. subst (λ p. 2 * place cut ≤ key_of p w.seen previous r) first (paid.after_cut previous))

  -- where it had no slot it has asked for nothing still
  unasked-alone : AsksNothing v w → (a : ℕ) → ((slot : ℕ) → HasSlot b v.first a slot → ⊥) → (asking_on (own_part w) a).announced ≡ []
  unasked-alone nothing a none =
      nothing.same a ∙ pass.unasked a (λ slot has. none slot (subst (λ t. HasSlot t v.first a slot) book has))

  -- a short payment has only looked
  module _ (short : r.reply ≡ Short) where
    abbrev at_cut : StandsAtCut b v w r.at
    at_cut = paid.short short

    pub nothing-short : AsksNothing v w
    nothing-short = AsksNothing-HasLoaded b v w kept keeps book same_book at_cut.loads

    pub published-short : (own_part w).published ≡ (own_part v).published
    published-short = published-HasLoaded b v w kept keeps book same_book at_cut.loads

    pub moved-short : HasMoved b v w
    moved-short = record {
      kept_before = kept;
      kept_after = keeps;
      book_before = book;
      book_after = same_book;
      process = ap (λ (t : Knowledge). t.first) at_cut.loads.same;
      more = at_cut.loads.more;
      free = ap (λ (q : Part). q.held) (own_part-HasLoaded b v w part at_cut.loads) ∙ pass.between.free;
    }

    pub between-short : IsBetweenCalls b w
    between-short = IsBetweenCalls-still b v w moved-short between nothing-short published-short

    pub told-short : (earlier : List Receipt) → Told b v.first v.seen earlier → IsPlaced b v.first w.seen earlier r → Told b w.first w.seen (earlier ++ r ∷ [])
    told-short earlier told placed =
        Told-call_still b v w moved-short between earlier r told placed (behind-from moved-short.process) nothing-short published-short
        (ap is_at_own at_cut.at_cut) (ap is_at_round at_cut.at_cut)

    pub reply-short : r.reply ≡ payment_reply b (take (place_at w.first w.seen r.call (is_success r.reply) r.at) w.seen) source targets
    reply-short =
        paid.reply ∙ ap (λ m. payment_reply b (take m w.seen) source targets)
        (sym (ap (place_at w.first w.seen r.call (is_success r.reply)) at_cut.at_cut))

  -- a done one has published its record
  module _ (done : r.reply ≡ Done) where
    abbrev at_own : StandsAtOwn b v w source targets r.at
    at_own = paid.done done

    abbrev looked : Knowledge
    looked = at_own.between

    abbrev own_record_is : Publication
    own_record_is = own_record v.first cut source targets

    part-looked : 0 < length looked.parts
    part-looked =
        let parts : length looked.parts ≡ length v.parts =
        ap (λ (t : Knowledge). length t.parts) at_own.loads.same ∙ length-set v.parts 0 (record (own_part v) { loads = (own_part looked).loads }) in
        omega (arith, part, parts)

    own_part-looked : own_part looked ≡ record (own_part v) { loads = (own_part looked).loads }
    own_part-looked = own_part-HasLoaded b v looked part at_own.loads

    own_part-done : own_part w ≡ with_record b (own_part looked) own_record_is
    own_part-done = ap own_part at_own.published.same ∙ get_or-set_same looked.parts 0 (with_record b (own_part looked) own_record_is) no_part part-looked

    pub asking-done : (a : ℕ) → asking_on (own_part w) a ≡ asking_on (own_part v) a
    asking-done a = ap (λ (q : Part). asking_on q a) own_part-done ∙ ap (λ (q : Part). asking_on q a) own_part-looked

    pub nothing-done : AsksNothing v w
    nothing-done = record { same = λ a. ap (λ t. t.announced) (asking-done a) }

    abbrev lead : List Publication
    lead = looked.seen ++ at_own.published.between

    leads : IsPrefix v.seen lead
    leads = IsPrefix-trans v.seen looked.seen lead at_own.loads.more (IsPrefix-append looked.seen at_own.published.between)

    pub published-done : (own_part w).published ≡ (own_part v).published + 1
    published-done = omega (
      arith,
      ap (λ (q : Part). q.published) own_part-done,
      ap (λ (q : Part). q.published) own_part-looked,
    )

    pub one-done : PublishesOwn v w
    one-done = record {
      lead = lead;
      record_is = own_record_is;
      leads = leads;
      seen = at_own.published.seen;
      process = refl;
      own = refl;
      begins = paid.snapshot.begins;
      published = published-done;
    }

    first-done : w.first ≡ v.first
    first-done = ap (λ (t : Knowledge). t.first) at_own.published.same ∙ ap (λ (t : Knowledge). t.first) at_own.loads.same

    pub moved-done : HasMoved b v w
    moved-done = record {
      kept_before = kept;
      kept_after = keeps;
      book_before = book;
      book_after = same_book;
      process = first-done;
      more = IsPrefix-trans v.seen lead w.seen leads (own_record_is ∷ [], at_own.published.seen);
      free = ap (λ (q : Part). q.held) own_part-done
          ∙ ap (held_after own_record_is) (ap (λ (q : Part). q.held) own_part-looked ∙ pass.between.free);
    }

    pub between-done : IsBetweenCalls b w
    between-done = IsBetweenCalls-own b v w moved-done between nothing-done one-done

    pub told-done : (earlier : List Receipt) → Told b v.first v.seen earlier → IsPlaced b v.first w.seen earlier r → Told b w.first w.seen (earlier ++ r ∷ [])
    told-done earlier told placed =
        Told-call_own b v w moved-done between earlier r told placed (behind-from first-done) nothing-done one-done
        (ap is_at_own at_own.at_own) (ap is_at_round at_own.at_own)

    last-done : IsLast looked w own_record_is
    last-done = IsLast-Publishes b looked w own_record_is part-looked (sym (ap (λ (t : Knowledge). t.first) at_own.loads.same)) at_own.published

    published-looked : (own_part looked).published ≡ (own_part v).published
    published-looked = ap (λ (q : Part). q.published) own_part-looked

    pub reply-done : source < length b.accounts
        → r.reply ≡ payment_reply b (take (place_at w.first w.seen r.call (is_success r.reply) r.at) w.seen) source targets
    reply-done known =
        let number = (own_part v).published in
        let at : place_at w.first w.seen r.call (is_success r.reply) r.at ≡ own_position w.first number w.seen =
        ap (place_at w.first w.seen r.call (is_success r.reply)) at_own.at_own in
        let entry = ap (λ (y : Publication). y.entry)
        (ap (publication_at (publications_of w.first w.seen)) (sym published-looked) ∙ last-done.last) in
        done
        ∙ (payment_reply-done b (take (own_position w.first number w.seen) w.seen) source targets
        (covered-own b w.seen w.first number source targets (subst (λ t. AreRuns t w.seen) same_book keeps.history.runs)
        (omega (arith, last-done.within, published-looked)) known entry)
        ∙ ap (λ m. payment_reply b (take m w.seen) source targets) (sym at))

  -- so whichever it was
  pub decided-alone : IsDecidedByBalance r
  decided-alone =
      elim (short_or_done b (prefix_of cut w.seen) source targets r.reply paid.reply) as (λ _. IsDecidedByBalance r) [ inl short ↦ inr short | inr done ↦ inl done ]

  pub process-alone : w.first ≡ v.first
  process-alone =
      elim (short_or_done b (prefix_of cut w.seen) source targets r.reply paid.reply) as (λ _. w.first ≡ v.first) [
        | inl short ↦ (moved-short short).process
        | inr done ↦ (moved-done done).process
      ]

  pub asking-alone : (a : ℕ) → asking_on (own_part w) a ≡ asking_on (own_part v) a
  asking-alone a =
      elim (short_or_done b (prefix_of cut w.seen) source targets r.reply paid.reply) as (λ _. asking_on (own_part w) a ≡ asking_on (own_part v) a) [
        | inl short ↦ asking-HasLoaded b v w kept keeps book same_book (paid.short short).loads a
        | inr done ↦ asking-done done a
      ]

  pub IsPass-alone : (now : TotalSums) → HasCounted now b w.seen → slice_index now.upto w.first ≡ (own_part w).published
      → IsPass w now (sent_after sent r.reply)
  IsPass-alone now counted own_counted =
      elim (short_or_done b (prefix_of cut w.seen) source targets r.reply paid.reply) as (λ _. IsPass w now (sent_after sent r.reply)) [
        | inl short ↦
            IsPass-HasMoved b v w was now sent (sent_after sent r.reply) (moved-short short) (between-short short) counted own_counted
            (ap (sent_after sent) short ∙ (pass.sent_is ∙ sym (owns_of-still b v w (moved-short short) between (nothing-short short) (published-short short))))
            (unasked-alone (nothing-short short))
        | inr done ↦
            IsPass-HasMoved b v w was now sent (sent_after sent r.reply) (moved-done done) (between-done done) counted own_counted
            (omega (arith, ap (sent_after sent) done, pass.sent_is, owns_of-own b v w (moved-done done) between (nothing-done done) (one-done done)))
            (unasked-alone (nothing-done done))
      ]
