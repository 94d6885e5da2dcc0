-- A start from one turn to the next.
use Rattle.std.proofs.Common.{◌≡◌, ℕ, ◌+◌, ◌-◌, ◌*◌, ◌<◌, ◌≤◌, zero, suc, List, [], ◌∷◌, ◌++◌, Some, length, get_or, set, refl, sym, ap, subst, ◌∙◌, arith}
use Rattle.std.specs.Prelude.{slice_index, sum}
use Rattle.at_calling.proofs.Prelude.{slot_in, slots_of, BookTerms, HasSlot, account_of, TargetPair, IsPrefix-length, IsPrefix-refl, IsPrefix-trans, place, places_max, IsPrefix, rounds, AreTargets, Request, HasLoadedRows, asking_on, no_asking, no_part, own_part, part_asking, seen_as, with_asking, Announces, with_request, all_of, with_row, LoadsRequestWord, with_loaded, StoresRequestWord, with_request_word, request_words, Asking, Knowledge, Part, SeenRequest, REQUEST_WORDS, StaysCounted-HasCounted, StaysCounted, TotalSums, HasAccount, HasAccount-IsSeat, HasAsked, HasLoadedNothing, MayAskFor, asked_for, opened, AreCandidates, CollectsRows, OpenRequest, HasStarted-StartsBy, IsHelping-StartsBy, Keeps-StartsBy, MayAskFor-IsSnapshot, number-StartsBy, own_counted-StartsBy, place-IsSnapshot-le, since-StartsBy, Keeps-HasLoaded, helping_of, StartsBy, published-HasLoaded, decides_on, HasLooked, HasLoaded, AskingTerms, asking_after, request_asked, starting_to_ask, CollectingRowsTerms, MakesNextLoad, rows_after, starting_rows, HasLookedToAsk, IsAskingThen, IsCollectingThen, IsStartStageSo, IsStartingSo, MakesLoadOf, NextRowLoad, announced_word, request_word, nothing, IsWithin, IsWithinOneMore, LeavesTotals, counted_so_far, newly_seen, HasSameCounts, IsStartOf, IsStartWithin, StartingTerms, asking_steps_of, start_steps, start_turns_in, StartStage, Ask, Collect}
use Rattle.at_calling.proofs.PayingAloneLaws.{HasSameAsking-HasLoaded, published-set}

-- a load of a row adds to what was seen
IsPrefix-MakesLoadOf : (b : BookTerms) (v w : Knowledge) (a slot own : ℕ) (this next : NextRowLoad) → MakesLoadOf b v w a slot own this next → IsPrefix v.seen w.seen
IsPrefix-MakesLoadOf b v w a slot own announced_word next (count, told, follows) = told.more
IsPrefix-MakesLoadOf b v w a slot own (request_word number word) next (n, told, follows) =
    subst (IsPrefix v.seen) (sym (ap (λ (k : Knowledge). k.seen) told.same)) (IsPrefix-refl v.seen)
IsPrefix-MakesLoadOf b v w a slot own nothing next told = absurd told

-- loads of lengths and of a row, a store of a word of the request and announcing it publish and decide nothing
decides-set : (xs : List Asking) (a : ℕ) (q : Asking) → q.decides ≡ (get_or xs a no_asking).decides
    → (get_or (set xs a q) a no_asking).decides ≡ (get_or xs a no_asking).decides
decides-set [] a q same = refl
decides-set (x ∷ xs) zero q same = same
decides-set (x ∷ xs) (suc a) q same = decides-set xs a q same

decides-part : (parts : List Part) (a : ℕ) (q : Part) → (asking_on q a).decides ≡ (asking_on (get_or parts 0 no_part) a).decides
    → (asking_on (get_or (set parts 0 q) 0 no_part) a).decides ≡ (asking_on (get_or parts 0 no_part) a).decides
decides-part [] a q same = refl
decides-part (p ∷ ps) a q same = same

HasSameCounts-with_asking : (v u w : Knowledge) (a : ℕ) (q : Asking) → u.parts ≡ v.parts → q.decides ≡ decides_on v a → w ≡ with_asking u a q
    → HasSameCounts v w a
HasSameCounts-with_asking v u w a q parts same told =
    let there : decides_on u a ≡ decides_on v a = ap (λ (ps : List Part). (asking_on (get_or ps 0 no_part) a).decides) parts in
    record {
      published = ap (λ (k : Knowledge). (own_part k).published) told
          ∙ (published-set u.parts (part_asking (own_part u) a q) refl ∙ ap (λ (ps : List Part). (get_or ps 0 no_part).published) parts);
      decides = ap (λ (k : Knowledge). decides_on k a) told
          ∙ (decides-part u.parts a (part_asking (own_part u) a q) (decides-set (own_part u).asking a q (same ∙ sym there)) ∙ there);
    }

HasSameCounts-HasLoaded : (b : BookTerms) (v w : Knowledge) (a : ℕ) → 0 < length v.parts → HasLoaded b v w → HasSameCounts v w a
HasSameCounts-HasLoaded b v w a part loads = record {
  published = published-HasLoaded b v w part loads;
  decides = ap (λ (q : Asking). q.decides) (HasSameAsking-HasLoaded b v w part loads a);
}

HasSameCounts-trans : (v u w : Knowledge) (a : ℕ) → HasSameCounts v u a → HasSameCounts u w a → HasSameCounts v w a
HasSameCounts-trans v u w a one two = record { published = two.published ∙ one.published; decides = two.decides ∙ one.decides }

pub HasSameCounts-LoadsRequestWord : (b : BookTerms) (v w : Knowledge) (a slot number word n : ℕ) → LoadsRequestWord b v w a slot number word n
    → HasSameCounts v w a
HasSameCounts-LoadsRequestWord b v w a slot number word n told =
    let x : SeenRequest = seen_as a slot number told.request in
    HasSameCounts-with_asking v (record v { requests = v.requests ++ x ∷ [] }) w a (with_loaded (asking_on (own_part v) a) x word) refl refl told.same

HasSameCounts-MakesLoadOf : (b : BookTerms) (v w : Knowledge) (a slot own : ℕ) (this next : NextRowLoad) → MakesLoadOf b v w a slot own this next
    → HasSameCounts v w a
HasSameCounts-MakesLoadOf b v w a slot own announced_word next (count, told, follows) =
    HasSameCounts-with_asking v (record v { seen = w.seen; requests = v.requests ++ all_of a slot told.row }) w a
    (with_row (asking_on (own_part v) a) slot count) refl refl told.same
HasSameCounts-MakesLoadOf b v w a slot own (request_word number word) next (n, told, follows) =
    HasSameCounts-LoadsRequestWord b v w a slot number word n told
HasSameCounts-MakesLoadOf b v w a slot own nothing next told = absurd told

pub HasSameCounts-MakesNextLoad : (b : BookTerms) (c after : CollectingRowsTerms) → MakesNextLoad b c after → HasSameCounts c.mark after.mark c.account
HasSameCounts-MakesNextLoad b c after told = HasSameCounts-MakesLoadOf b c.mark after.mark c.account c.slot c.own.slot c.next told.row_next told.load

pub HasSameCounts-StoresRequestWord : (v w : Knowledge) (a j n : ℕ) → StoresRequestWord v w a j n → HasSameCounts v w a
HasSameCounts-StoresRequestWord v w a j n told =
    HasSameCounts-with_asking v v w a (with_request_word (asking_on (own_part v) a) j n) refl refl told

pub HasSameCounts-Announces : (b : BookTerms) (v w : Knowledge) (a slot : ℕ) (r : Request) → Announces b v w a slot r → HasSameCounts v w a
HasSameCounts-Announces b v w a slot r told =
    let old : Asking = asking_on (own_part v) a in
    HasSameCounts-with_asking v (record v { seen = w.seen; requests = v.requests ++ seen_as a slot (length old.announced) r ∷ [] }) w a
    (with_request old r (rounds a w.seen) (own_part v).loads) refl refl told.same

pub IsPrefix-MakesNextLoad : (b : BookTerms) (c after : CollectingRowsTerms) → MakesNextLoad b c after → IsPrefix c.mark.seen after.mark.seen
IsPrefix-MakesNextLoad b c after told = IsPrefix-MakesLoadOf b c.mark after.mark c.account c.slot c.own.slot c.next told.row_next told.load

-- a start in this stage, with this known
abbrev pub start_after : StartingTerms → StartStage → Knowledge → StartingTerms
start_after t stage w = record t { stage = stage; mark = w }

-- and with the look ended in so many turns
abbrev pub start_after_look : StartingTerms → StartStage → Knowledge → TotalSums → ℕ → StartingTerms
start_after_look t stage w now turns = record t { stage = stage; mark = w; totals = now; looked = turns }

module _ (t : StartingTerms) (so : IsStartingSo t) where
  -- the slot that the process has on the account
  abbrev pub slot_of_start : ℕ
  slot_of_start = so.asks.0

  -- the seat has something on the account
  has : HasAccount t.start t.account
  has = HasAccount-IsSeat t.start t.start.first (own_part t.start).published t.account so.kept so.asks.1.slot_in.account_in

  pub HasSlot-IsStartingSo : HasSlot t.start.book t.start.first t.account slot_of_start
  HasSlot-IsStartingSo = so.asks.1.slot_in

  -- the look has ended
  module _ (w : Knowledge) (now : TotalSums) (cut : List ℕ) (looked : HasLooked t.start.book t.start w t.was now cut) where
    pub place-HasLooked-le : place cut ≤ length w.seen
    place-HasLooked-le = place-IsSnapshot-le t.start.book t.start w cut looked.snapshot looked.loads

    pub place-HasLooked-few : place cut ≤ places_max
    place-HasLooked-few = omega (arith, place-HasLooked-le, looked.loads.history.few)

    pub MayAskFor-HasLooked : (targets : List TargetPair) → AreTargets t.start.book targets
        → MayAskFor t.start.book w t.account slot_of_start (asked_for targets (place cut))
    MayAskFor-HasLooked targets are =
        MayAskFor-IsSnapshot t.start.book t.start w t.account slot_of_start targets cut has looked.snapshot looked.loads so.asks.1 so.settled are

    pub IsStartingSo-ask : (targets : List TargetPair) (turns : ℕ) → targets ≡ t.targets
        → IsWithin t.start.book.processes t.was (sum cut) turns
        → IsStartingSo (start_after_look t (Ask (starting_to_ask w t.account targets (place cut))) w now turns)
    IsStartingSo-ask targets turns same few = record {
      kept = so.kept;
      book = ap (λ (k : Knowledge). k.book) looked.loads.same;
      targets_in = so.targets_in;
      asks = so.asks;
      settled = so.settled;
      free = so.free;
      stage_so = record {
        mark_is = refl;
        left = omega arith;
        to_ask = record {
          account_is = refl;
          targets_are = same;
          cut = cut;
          looked_at = looked;
          since_is = refl;
          few = few;
          same = HasSameCounts-HasLoaded t.start.book t.start w t.account has.part looked.loads;
          more = IsPrefix-refl w.seen;
        };
      };
    }

  -- since the look ended
  module _ (looked : Knowledge) (account : ℕ) (targets : List TargetPair) (since : ℕ) (to_ask : HasLookedToAsk t looked account targets since)
      (w : Knowledge) (same : HasSameCounts t.start w account) (more : IsPrefix looked.seen w.seen) where
    -- what was counted stays so
    pub StaysCounted-HasLookedToAsk : StaysCounted t.totals t.start.book w.seen
    StaysCounted-HasLookedToAsk = StaysCounted-HasCounted t.totals t.start.book w.seen (to_ask.looked_at.counted w.seen more)

    -- the turns are few
    pub IsStartWithin-HasLookedToAsk : (stage : StartStage) → start_turns_in t.looked stage ≤ t.looked + asking_steps_of t.start.book t
        → IsStartWithin t.start.book (start_after t stage w) (newly_seen t.start w t.was.upto)
    IsStartWithin-HasLookedToAsk stage few =
        omega (
          arith,
          few,
          to_ask.few,
          same.published,
          place-IsSnapshot-le t.start.book t.start looked to_ask.cut to_ask.looked_at.snapshot to_ask.looked_at.loads,
          IsPrefix-length looked.seen w.seen more,
        )

    pub counting-HasLookedToAsk : (stage : StartStage) → start_turns_in t.looked stage ≤ t.looked + asking_steps_of t.start.book t
        → IsWithinOneMore (start_steps t.start.book t) (counted_so_far t.start w t.was.upto t.totals.upto) (start_turns_in t.looked stage)
    counting-HasLookedToAsk stage few = omega (arith, few, to_ask.few, same.published, ap (λ xs. sum xs) to_ask.looked_at.upto)

    -- the same with this known
    pub HasLookedToAsk-more : (stage : StartStage) → HasLookedToAsk (start_after t stage w) looked account targets since
    HasLookedToAsk-more stage = record {
      account_is = to_ask.account_is;
      targets_are = to_ask.targets_are;
      cut = to_ask.cut;
      looked_at = to_ask.looked_at;
      since_is = to_ask.since_is;
      few = to_ask.few;
      same = same;
      more = more;
    }

  -- another stage
  IsStartingSo-stage : (stage : StartStage) (w : Knowledge) → w.book ≡ t.start.book → IsStartStageSo (start_after t stage w) stage
      → IsStartingSo (start_after t stage w)
  IsStartingSo-stage stage w book stage_so = record {
    kept = so.kept;
    book = book;
    targets_in = so.targets_in;
    asks = so.asks;
    settled = so.settled;
    free = so.free;
    stage_so = stage_so;
  }

  -- the request is stored
  module _ (a : AskingTerms) (is : IsAskingThen t a) (w : Knowledge) where
    -- a store of a word leaves what was seen
    pub IsPrefix-word : StoresRequestWord a.mark w a.account a.stored (slice_index (request_words (request_asked a)) a.stored) → IsPrefix a.start.seen w.seen
    IsPrefix-word told =
        subst (IsPrefix a.start.seen) (ap (λ (k : Knowledge). k.seen) (sym is.mark_is) ∙ sym (ap (λ (k : Knowledge). k.seen) told)) is.to_ask.more

    -- and what is published and decided
    pub HasSameCounts-word : StoresRequestWord a.mark w a.account a.stored (slice_index (request_words (request_asked a)) a.stored) → HasSameCounts t.start w a.account
    HasSameCounts-word told =
        HasSameCounts-trans t.start a.mark w a.account (subst (λ (k : Knowledge). HasSameCounts t.start k a.account) (sym is.mark_is) is.to_ask.same)
        (HasSameCounts-StoresRequestWord a.mark w a.account a.stored (slice_index (request_words (request_asked a)) a.stored) told)

    pub IsStartingSo-word : a.stored < REQUEST_WORDS → w.book ≡ t.start.book → StoresRequestWord a.mark w a.account a.stored (slice_index (request_words (request_asked a)) a.stored)
        → IsStartingSo (start_after t (Ask (asking_after a w)) w)
    IsStartingSo-word left book told =
        IsStartingSo-stage (Ask (asking_after a w)) w book (record {
          mark_is = refl;
          left = omega (arith, left);
          to_ask = HasLookedToAsk-more a.start a.account a.targets a.since is.to_ask w (HasSameCounts-word told) (IsPrefix-word told) (Ask (asking_after a w));
        })

    -- the slot is that of the seat's process still
    pub HasSlot-IsAskingThen : HasSlot t.start.book a.start.first a.account slot_of_start
    HasSlot-IsAskingThen =
        subst (λ p. HasSlot t.start.book p a.account slot_of_start) (sym (Keeps-HasLoaded t.start.book t.start a.start has.part is.to_ask.looked_at.loads).first)
        (subst (λ n. HasSlot t.start.book t.start.first n slot_of_start) (sym is.to_ask.account_is) HasSlot-IsStartingSo)

    -- the request is announced
    module _ (told : Announces t.start.book a.start w a.account slot_of_start (request_asked a)) where
      pub HasSameCounts-announced : HasSameCounts t.start w a.account
      HasSameCounts-announced =
          HasSameCounts-trans t.start a.start w a.account
          (HasSameCounts-HasLoaded t.start.book t.start a.start a.account has.part is.to_ask.looked_at.loads)
          (HasSameCounts-Announces t.start.book a.start w a.account slot_of_start (request_asked a) told)

      pub slot_in-Announces : slot_in (account_of t.start.book a.account) w.first ≡ Some slot_of_start
      slot_in-Announces = ap (slot_in (account_of t.start.book a.account)) (ap (λ (k : Knowledge). k.first) told.same) ∙ HasSlot-IsAskingThen.owner

      pub IsStartingSo-collect : (number : ℕ) → w.book ≡ t.start.book → number ≡ length (asking_on (own_part a.start) a.account).announced
          → HasLoadedNothing w a.account
          → IsStartingSo (start_after t (Collect (starting_rows w a.account (opened slot_of_start number a.targets a.since))) w)
      IsStartingSo-collect number book counted nothing_loaded =
          let own : OpenRequest = opened slot_of_start number a.targets a.since in
          let stage : StartStage = Collect (starting_rows w a.account own) in
          IsStartingSo-stage stage w book (record {
            mark_is = refl;
            left = omega (arith, HasSlot-IsStartingSo.within);
            looked = a.start;
            to_ask = HasLookedToAsk-more a.start a.account a.targets a.since is.to_ask w HasSameCounts-announced told.more stage;
            number = counted;
            announced = told;
            nothing_loaded = nothing_loaded;
          })

  -- the rows are loaded
  module _ (c : CollectingRowsTerms) (is : IsCollectingThen t c) (w : Knowledge) where
    pub more-rows : IsPrefix c.mark.seen w.seen → IsPrefix is.looked.seen w.seen
    more-rows more = IsPrefix-trans is.looked.seen c.mark.seen w.seen (subst (λ (k : Knowledge). IsPrefix is.looked.seen k.seen) (sym is.mark_is) is.to_ask.more) more

    -- nothing is published and decided meanwhile
    pub HasSameCounts-rows : HasSameCounts c.mark w c.account → HasSameCounts t.start w c.account
    HasSameCounts-rows same =
        HasSameCounts-trans t.start c.mark w c.account (subst (λ (k : Knowledge). HasSameCounts t.start k c.account) (sym is.mark_is) is.to_ask.same) same

    pub StaysCounted-IsCollectingThen : HasSameCounts c.mark w c.account → IsPrefix c.mark.seen w.seen
        → StaysCounted t.totals t.start.book w.seen
    StaysCounted-IsCollectingThen same more =
        StaysCounted-HasLookedToAsk is.looked c.account c.own.targets c.own.since is.to_ask w (HasSameCounts-rows same) (more-rows more)

    pub IsStartWithin-IsCollectingThen : (stage : StartStage) → HasSameCounts c.mark w c.account → IsPrefix c.mark.seen w.seen
        → start_turns_in t.looked stage ≤ t.looked + asking_steps_of t.start.book t
        → IsStartWithin t.start.book (start_after t stage w) (newly_seen t.start w t.was.upto)
    IsStartWithin-IsCollectingThen stage same more few =
        IsStartWithin-HasLookedToAsk is.looked c.account c.own.targets c.own.since is.to_ask w (HasSameCounts-rows same) (more-rows more) stage few

    pub counting-IsCollectingThen : (stage : StartStage) → HasSameCounts c.mark w c.account → IsPrefix c.mark.seen w.seen
        → start_turns_in t.looked stage ≤ t.looked + asking_steps_of t.start.book t
        → IsWithinOneMore (start_steps t.start.book t) (counted_so_far t.start w t.was.upto t.totals.upto) (start_turns_in t.looked stage)
    counting-IsCollectingThen stage same more few =
        counting-HasLookedToAsk is.looked c.account c.own.targets c.own.since is.to_ask w (HasSameCounts-rows same) (more-rows more) stage few

    pub IsStartingSo-rows : (slot : ℕ) (next : NextRowLoad) → w.book ≡ t.start.book → HasSameCounts c.mark w c.account
        → IsPrefix c.mark.seen w.seen
        → c.made + 1 ≤ slots_of (account_of t.start.book c.account) + REQUEST_WORDS * (slots_of (account_of t.start.book c.account) - 1)
        → IsStartingSo (start_after t (Collect (rows_after c w slot next)) w)
    IsStartingSo-rows slot next book same more most =
        let stage : StartStage = Collect (rows_after c w slot next) in
        IsStartingSo-stage stage w book (record {
          mark_is = refl;
          left = omega (arith, most, HasSlot-IsStartingSo.within, ap (λ n. slots_of (account_of t.start.book n)) is.to_ask.account_is);
          looked = is.looked;
          to_ask = HasLookedToAsk-more is.looked c.account c.own.targets c.own.since is.to_ask w (HasSameCounts-rows same) (more-rows more) stage;
          number = is.number;
          announced = is.announced;
          nothing_loaded = is.nothing_loaded;
        })

    -- and all of them
    module _ (asked : List OpenRequest) (rows : CollectsRows t.start.book c.start w c.account c.own asked)
        (candidates : AreCandidates c.start w c.account c.own.slot asked) (collected : HasLoadedRows t.start.book w c.account c.own.slot)
        (last : HasAsked t.start.book w c.account c.own) where
      parts : StartsBy t.start.book t.start w c.account c.own asked
      parts = record {
        cut = is.to_ask.cut;
        looked = is.looked;
        snapshot = is.to_ask.looked_at.snapshot;
        loads = is.to_ask.looked_at.loads;
        since = is.to_ask.since_is;
        number = is.number;
        asked = c.start;
        announced = is.announced;
        nothing = is.nothing_loaded;
        rows = rows;
        candidates = candidates;
        collected = collected;
        last = last;
      }

      has_there : HasAccount t.start c.account
      has_there = subst (HasAccount t.start) (sym is.to_ask.account_is) has

      pub IsStartOf-CollectsRows : IsStartOf t.start.book t.start w t.account t.targets (helping_of t.account c.own asked)
      IsStartOf-CollectsRows =
          let b : BookTerms = t.start.book in
          let kept = Keeps-StartsBy b t.start w c.account c.own asked parts has_there in
          let number = number-StartsBy b t.start w c.account c.own asked parts has_there in
          let room : c.own.number < b.request_room =
          omega (arith, number, so.asks.1.room, ap (λ n. length (asking_on (own_part t.start) n).announced) is.to_ask.account_is) in
          let here : IsStartOf b t.start w c.account t.targets (helping_of c.account c.own asked) = record {
            account_is = refl;
            targets_are = is.to_ask.targets_are;
            started = HasStarted-StartsBy b t.start w c.account c.own asked parts has_there;
            helping = IsHelping-StartsBy b t.start w c.account c.own asked parts has_there room so.free;
            number = number;
            since = since-StartsBy b t.start w c.account c.own asked parts has_there;
            begins = kept.more;
            process = kept.first;
            decides = kept.decides;
            published = kept.published;
          } in
          subst (λ n. IsStartOf b t.start w n t.targets (helping_of n c.own asked)) is.to_ask.account_is here

      pub LeavesTotals-CollectsRows : (turns steps : ℕ) → turns ≤ t.looked + steps
          → LeavesTotals t.start.book t.start w t.was t.totals steps turns
      unfolding parts
      LeavesTotals-CollectsRows turns steps few =
          let b : BookTerms = t.start.book in
          let kept = Keeps-StartsBy b t.start w c.account c.own asked parts has_there in
          let looked_at = is.to_ask.looked_at in
          record {
            more = omega (arith, kept.published, looked_at.more, ap sum looked_at.upto);
            own_counted = ap (λ (upto : List ℕ). get_or upto w.first 0) looked_at.upto ∙ own_counted-StartsBy b t.start w c.account c.own asked parts has_there;
            few = omega (arith, few, is.to_ask.few, kept.published, looked_at.more, ap sum looked_at.upto);
          }
