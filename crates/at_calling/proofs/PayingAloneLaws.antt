-- What a look, and a record after it, let the receipt of a payment be.
use Rattle.std.proofs.Common.{◌≡◌, ℕ, ◌+◌, ◌<◌, ◌≤◌, ◌*◌, ◌-◌, List, [], ◌∷◌, ◌++◌, get_or, length, set, refl, sym, ap, subst, ◌∙◌, arith}
use Rattle.at_calling.proofs.Prelude.{append_assoc, get_or-set_same, length-append, sum_by-set, sum, BookTerms, TargetPair, amount_of, Done, Short, length-IsCut, place-IsCut-le, ArePublishedBy-IsHistory, balance_after, place, prefix_of, IsPrefix, owns_of, Entry, Publication, asking_on, no_part, own_part, with_part, Publishes, with_record, StoresWord, with_word, Knowledge, Part, RECORD_WORDS, HasCounted, TotalSums, Cut, Own, own_part-HasLoaded, first-HasLoaded, published-HasLoaded, owns_of-IsPrefix-take, IsPaid, IsSnapshot-IsPaid, begins-IsPaid, first-IsPaid, cut_behind-IsPaid, more-IsPaid, number-IsPaid, place-IsPaid, prefix_of-IsPaid, record-IsPaid, within-IsPaid, IsPlaced-done, IsPlaced-short, payment_reply-done, payment_reply-short, HasLooked, IsOnlyOwner, cut_behind, own_record, payment_reply, HasLoaded, IsSnapshot, snapshot_steps, starting_appending, IsPayingAloneSo, IsWithin, AnswersAlone, HasSameAsking, PayingAloneTerms, append_steps, LeavesTotals, PayStage, Append}

-- loads of lengths, a store of a word of the next record, and publishing leave alone what the process has on an account
pub HasSameAsking-HasLoaded : (b : BookTerms) (v w : Knowledge) → 0 < length v.parts → HasLoaded b v w → HasSameAsking v w
HasSameAsking-HasLoaded b v w part loads = λ a. ap (λ (q : Part). asking_on q a) (own_part-HasLoaded b v w part loads)

pub HasSameAsking-StoresWord : (v w : Knowledge) (j n : ℕ) → 0 < length v.parts → StoresWord v w j n → HasSameAsking v w
HasSameAsking-StoresWord v w j n part told = λ a.
    ap (λ (q : Part). asking_on q a) (ap own_part told ∙ get_or-set_same v.parts 0 (with_word (own_part v) j n) no_part part)

pub HasSameAsking-Publishes : (b : BookTerms) (v w : Knowledge) (x : Publication) → 0 < length v.parts → Publishes b v w x → HasSameAsking v w
HasSameAsking-Publishes b v w x part told = λ a.
    ap (λ (q : Part). asking_on q a) (ap own_part told.same ∙ get_or-set_same v.parts 0 (with_record b (own_part v) x) no_part part)

-- what a part's process has published is as before where the part says so
pub published-set : (parts : List Part) (q : Part) → q.published ≡ (get_or parts 0 no_part).published
    → (get_or (set parts 0 q) 0 no_part).published ≡ (get_or parts 0 no_part).published
published-set [] q same = refl
published-set (p ∷ ps) q same = same

pub published-with_part : (v : Knowledge) (q : Part) → q.published ≡ (own_part v).published → (own_part (with_part v q)).published ≡ (own_part v).published
published-with_part v q same = published-set v.parts q same

pub HasSameAsking-trans : (u v w : Knowledge) → HasSameAsking u v → HasSameAsking v w → HasSameAsking u w
HasSameAsking-trans u v w before after = λ a. after a ∙ before a

-- publishing adds to what is seen
pub IsPrefix-Publishes : (b : BookTerms) (v w : Knowledge) (x : Publication) → Publishes b v w x → IsPrefix v.seen w.seen
IsPrefix-Publishes b v w x told = (told.between ++ x ∷ [], told.seen ∙ append_assoc v.seen told.between (x ∷ []))

pub length-Publishes-lt : (b : BookTerms) (v w : Knowledge) (x : Publication) → Publishes b v w x → length v.seen < length w.seen
length-Publishes-lt b v w x told =
    omega (
      arith,
      ap (λ (xs : List Publication). length xs) told.seen,
      length-append (v.seen ++ told.between) (x ∷ []),
      length-append v.seen told.between,
    )

-- a cut counts at most what is seen
pub sum-HasLooked-le : (b : BookTerms) (v w : Knowledge) (was now : TotalSums) (cut : List ℕ) → HasLooked b v w was now cut → sum cut ≤ length w.seen
sum-HasLooked-le b v w was now cut looked =
    place-IsCut-le b.processes cut w.seen looked.snapshot.cut (ArePublishedBy-IsHistory b w.seen looked.loads.history)

-- the payment that goes on with this stage, after so many turns of its look, with what its seat knows and its totals have counted
abbrev pub paying_next : PayingAloneTerms → PayStage → ℕ → Knowledge → TotalSums → PayingAloneTerms
paying_next s stage looked x now = record {
  from = s.from;
  targets = s.targets;
  stage = stage;
  looked = looked;
  start = s.start;
  mark = x;
  was = s.was;
  totals = now;
}

-- after its look, where the balance covers it, the append of its record comes
abbrev pub next_append : PayingAloneTerms → Knowledge → List ℕ → PayStage
next_append s x cut = Append (starting_appending x (record { entry = Entry.Own s.from s.targets; view = cut }))

pub IsPayingAloneSo-append : (s : PayingAloneTerms) (x : Knowledge) (now : TotalSums) (cut : List ℕ) (turns : ℕ) → IsPayingAloneSo s
    → x.book ≡ s.start.book → HasLooked s.start.book s.start x s.was now cut
    → amount_of s.targets ≤ balance_after s.start.book (prefix_of cut x.seen) s.from
    → IsWithin s.start.book.processes s.was (sum cut) turns → IsPayingAloneSo (paying_next s (next_append s x cut) turns x now)
IsPayingAloneSo-append s x now cut turns so book looked enough within = record {
  kept = so.kept;
  book = book;
  asks = HasSameAsking-HasLoaded s.start.book s.start x (omega (arith, so.kept.one_part)) looked.loads;
  owner = so.owner;
  account_in = so.account_in;
  targets_in = so.targets_in;
  room = so.room;
  stage_so = λ few. record {
    mark_is = refl;
    unpublished = published-HasLoaded s.start.book s.start x (omega (arith, so.kept.one_part)) looked.loads;
    looked_at = looked;
    entry = refl;
    enough = enough;
    few = within;
    seen = sum-HasLooked-le s.start.book s.start x s.was now cut looked;
    begins = looked.loads.more;
  };
}

module _ (b : BookTerms) (v w : Knowledge) (was now : TotalSums) (cut : List ℕ) (from : ℕ) (targets : List TargetPair)
    (looked : HasLooked b v w was now cut) (owner : IsOnlyOwner b v.first from)
    (room : owns_of v.first v.seen < b.own_room) where
  -- the balance at the cut doesn't cover the payment
  pub AnswersAlone-short : balance_after b (prefix_of cut w.seen) from < amount_of targets
      → AnswersAlone b v w from targets (Short, Cut cut)
  AnswersAlone-short less call payout = record {
    call_is = refl;
    reply = payment_reply-short b (prefix_of cut w.seen) from targets less;
    placed = λ earlier owns.
        IsPlaced-short b v.first w.seen earlier call from targets cut payout owner (omega (arith, owns, room)) looked.snapshot.cut less;
    after_cut = λ previous. omega arith;
    snapshot = looked.snapshot;
    short = λ is. record { at_cut = refl; loads = looked.loads };
    done = λ is. absurd (cc is);
  }

  -- the record that the cut covers is published
  module _ (x : Knowledge) (paid : IsPaid b v w x cut from targets) where
    pub AnswersAlone-done : amount_of targets ≤ balance_after b (prefix_of cut w.seen) from
        → AnswersAlone b v x from targets (Done, Own (own_part v).published)
    AnswersAlone-done enough call payout =
        let number : ℕ = (own_part v).published in
        let behind : cut_behind x (Own number) ≡ cut = cut_behind-IsPaid b v w x cut from targets paid in
        record {
          call_is = refl;
          reply = payment_reply-done b (prefix_of cut w.seen) from targets enough
              ∙ ap (λ xs. payment_reply b xs from targets)
              (sym (ap (λ f. prefix_of f x.seen) behind ∙ prefix_of-IsPaid b v w x cut from targets paid));
          placed = λ earlier owns.
              IsPlaced-done b v.first x.seen earlier call from targets number payout owner (omega (arith, owns, room))
              (within-IsPaid b v w x cut from targets paid)
              (ap (λ (y : Publication). y.entry) (record-IsPaid b v w x cut from targets paid))
              (owns_of-IsPrefix-take v.first number v.seen x.seen (begins-IsPaid b v w x cut from targets paid) paid.own ∙ sym owns);
          after_cut = λ previous. omega (arith, ap place behind, place-IsPaid b v w x cut from targets paid);
          snapshot = subst (IsSnapshot b v x) (sym behind) (IsSnapshot-IsPaid b v w x cut from targets paid);
          short = λ is. absurd (cc is);
          done = λ is. record {
            at_own = refl;
            between = w;
            loads = paid.loads;
            published = paid_by behind;
          };
        }
      where
        paid_by : cut_behind x (Own (own_part v).published) ≡ cut → Publishes b w x (own_record v.first (cut_behind x (Own (own_part v).published)) from targets)
        paid_by behind =
            subst (λ f. Publishes b w x (own_record v.first f from targets)) (sym behind)
            (subst (λ p. Publishes b w x (own_record p cut from targets)) (first-HasLoaded b v w paid.loads) paid.published)

    -- what the totals had counted stays counted
    pub HasCounted-IsPaid : HasCounted now b x.seen
    HasCounted-IsPaid = looked.counted x.seen (more-IsPaid b v w x cut from targets paid)

    pub published-IsPaid : (own_part x).published ≡ (own_part v).published + 1
    published-IsPaid = paid.last.published ∙ ap (λ k. k + 1) (number-IsPaid b v w x cut from targets paid)

    -- what the totals count then, the own record among it
    module _ (next : TotalSums) (counted : next.upto ≡ set now.upto x.first (own_part x).published) (width looked_turns stored : ℕ)
        (few : looked_turns ≤ snapshot_steps b.processes + RECORD_WORDS * (sum cut - sum was.upto)) (stores : stored ≡ width + 1)
        (known : v.first < b.processes) where
      sized : length cut ≡ b.processes
      sized = length-IsCut b.processes cut w.seen looked.snapshot.cut

      first : x.first ≡ v.first
      first = first-IsPaid b v w x cut from targets paid

      next_upto : next.upto ≡ set cut v.first (own_part x).published
      next_upto = counted ∙ (ap (λ xs. set xs x.first (own_part x).published) looked.upto ∙ ap (λ p. set cut p (own_part x).published) first)

      all : sum next.upto + (own_part v).published ≡ sum cut + (own_part x).published
      all = omega (
        arith,
        sum_by-set (λ (n : ℕ). n) cut v.first (own_part x).published 0 (omega (arith, known, sized)),
        ap (λ (xs : List ℕ). sum xs) next_upto,
        looked.snapshot.own,
      )

      pub LeavesTotals-IsPaid : LeavesTotals b v x was next (append_steps width Done) (looked_turns + stored)
      LeavesTotals-IsPaid = record {
        more = omega (arith, all, looked.more);
        own_counted =
            ap (λ xs. get_or xs x.first 0) next_upto
            ∙ (ap (λ p. get_or (set cut v.first (own_part x).published) p 0) first
            ∙ get_or-set_same cut v.first (own_part x).published 0 (omega (arith, known, sized)));
        few = omega (arith, few, stores, all, published-IsPaid, looked.more);
      }
