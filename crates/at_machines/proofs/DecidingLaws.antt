-- A round from one turn to the next.
use Rattle.std.proofs.Common.{◌≡◌, ℕ, ◌<◌, ◌++◌, false, List, [], ◌∷◌, get_or, refl, sym, ap, subst, ◌∙◌, arith, inl}
use Rattle.at_machines.proofs.Prelude.{append_assoc, Contains, word_of, Decision, BookTerms, IsCut-IsPrefix, ArePublishedBy-IsHistory, IsPrefix-trans, IsCut, place, prefix_of, IsPrefix, count_of, is_settled, rounds, IsSoundRound, Entry, Publication, Request, SeesDecision, own_part, IsKept, Decides, MayPropose, Publishes, Knowledge, Part, SeenDecision, StaysCounted-HasCounted, CountsCut, HasCounted, TotalSums, MayAppend, published_by, Record, HasAccount, HasAccount-IsSeat, LoadsRequest, loaded_words, request_of, seen_of, OpenRequest, HasAccount-IsAfter, IsAfter, IsAfter-Decides, IsAfter-LoadsRequest, IsAfter-trans, own_part-Decides, own_part-LoadsRequest, IsSoundRound-Decides, DecidesNext, HelpingTerms, IsHelpingAt, HasLoadedDecided, IsDecidingSo, LoadingRequestTerms, RoundStage, Loading, Proposing}

pub IsDecidingSo-start : (b : BookTerms) (v : Knowledge) (totals : TotalSums) (h : HelpingTerms) (cut : List ℕ) (account round : ℕ) (proposal : Decision) → IsKept v
    → v.book ≡ b → HasCounted totals b v.seen → CountsCut totals b v.seen → totals.upto ≡ cut → get_or cut v.first 0 ≡ (own_part v).published
    → IsHelpingAt b v (prefix_of cut v.seen) h → is_settled h.account h.own.slot h.own.number (prefix_of cut v.seen) ≡ false → account ≡ h.account
    → round ≡ rounds h.account (prefix_of cut v.seen) → proposal.place ≡ place cut
    → (r : Request) × MayPropose b v h.account (rounds h.account (prefix_of cut v.seen)) proposal r
    → IsDecidingSo v v totals h cut account round (Proposing proposal)
IsDecidingSo-start b v totals h cut account round proposal kept book counted at_cut upto own helping unsettled account_is round_is placed may =
    let back = sym book in
    record {
      seat = kept;
      book = refl;
      account_is = account_is;
      round_is = round_is;
      counted = subst (λ (t : BookTerms). HasCounted totals t v.seen) back counted;
      at_cut = subst (λ (t : BookTerms). CountsCut totals t v.seen) back at_cut;
      upto = upto;
      own = own;
      helping = subst (λ (t : BookTerms). IsHelpingAt t v (prefix_of cut v.seen) h) back helping;
      unsettled = unsettled;
      stage_so = (
        refl,
        record {
          at_cut = placed;
          may = subst (λ (t : BookTerms). (r : Request) × MayPropose t v h.account (rounds h.account (prefix_of cut v.seen)) proposal r) back may;
        },
      );
    }

-- the decided request is loaded
pub HasLoadedDecided-LoadsRequest : (b : BookTerms) (start mark : Knowledge) (totals : TotalSums) (h : HelpingTerms) (cut : List ℕ) (account round : ℕ) (d : Decision)
    (l : LoadingRequestTerms) (w : Knowledge) (x : OpenRequest) → b ≡ start.book → IsDecidingSo start mark totals h cut account round (Loading d l)
    → LoadsRequest b l.start w l.account l.slot l.number x
    → HasLoadedDecided start w h cut d (record { entry = Entry.Round account round d x.targets; view = cut })
HasLoadedDecided-LoadsRequest b start mark totals h cut account round d l w x book so told =
    let (mark_is, left, account_is, slot_is, number_is, decides) = so.stage_so in
    let record_of : ℕ → ℕ → Record = λ a r. record { entry = Entry.Round a r d x.targets; view = cut } in
    record {
      decided = l.start;
      decides = decides;
      request = x;
      loads = subst (λ (t : BookTerms). LoadsRequest t l.start w h.account d.slot d.number x) book
          (subst (λ a. LoadsRequest b l.start w a d.slot d.number x) account_is
          (subst (λ s. LoadsRequest b l.start w l.account s d.number x) slot_is (subst (λ n. LoadsRequest b l.start w l.account l.slot n x) number_is told)));
      record_is = ap (λ a. record_of a round) so.account_is ∙ ap (record_of h.account) so.round_is;
    }

module _ (start mark : Knowledge) (totals : TotalSums) (h : HelpingTerms) (cut : List ℕ) (account round : ℕ) (stage : RoundStage)
    (so : IsDecidingSo start mark totals h cut account round stage) (loaded : Knowledge) (d : Decision) (rec : Record)
    (told : HasLoadedDecided start loaded h cut d rec) where
  abbrev b : BookTerms
  b = start.book

  abbrev next_round : ℕ
  next_round = rounds h.account (prefix_of cut start.seen)

  decides : Decides b start told.decided h.account next_round told.decides.proposal (word_of d)
  decides = told.decides.decides.decides

  has_account : HasAccount start h.account
  has_account = HasAccount-IsSeat start start.first (own_part start).published h.account so.seat so.helping.asked.slot_in.account_in

  after_decides : IsAfter start told.decided h.account 1 []
  after_decides = IsAfter-Decides b start told.decided h.account next_round told.decides.proposal (word_of d) has_account decides

  after_loads : IsAfter start loaded h.account 1 (loaded_words (seen_of h.account told.request))
  after_loads =
      IsAfter-trans start told.decided loaded h.account 1 0 [] (loaded_words (seen_of h.account told.request)) after_decides
      (IsAfter-LoadsRequest b told.decided loaded h.account d.slot d.number told.request
      (HasAccount-IsAfter start told.decided h.account 1 [] after_decides has_account) told.loads)

  pub book-HasLoadedDecided : loaded.book ≡ b
  book-HasLoadedDecided = after_loads.book

  seen_is : loaded.seen ≡ told.decided.seen
  seen_is = ap (λ (v : Knowledge). v.seen) told.loads.same

  -- the cut is one still
  is_cut : IsCut b.processes cut start.seen
  is_cut = subst (λ f. IsCut b.processes f start.seen) so.upto so.at_cut.cut

  cut_loaded : IsCut b.processes cut loaded.seen
  cut_loaded =
      IsCut-IsPrefix b.processes cut start.seen loaded.seen is_cut (ArePublishedBy-IsHistory b start.seen so.at_cut.history) after_loads.more

  counts_own : get_or cut loaded.first 0 ≡ count_of loaded.first loaded.seen
  counts_own =
      ap (λ p. get_or cut p 0) after_loads.first
      ∙ (so.own ∙ (sym decides.own ∙ (ap (λ (list : List Publication). count_of start.first list) (sym seen_is) ∙ ap (λ p. count_of p loaded.seen) (sym after_loads.first))))

  -- and counts the records of the seat's process, which are as many still
  published_loaded : (own_part loaded).published ≡ (own_part start).published
  published_loaded =
      ap (λ (q : Part). q.published) (own_part-LoadsRequest b told.decided loaded h.account d.slot d.number told.request
      (HasAccount-IsAfter start told.decided h.account 1 [] after_decides has_account).part told.loads)
      ∙ ap (λ (q : Part). q.published) (own_part-Decides b start told.decided h.account next_round told.decides.proposal (word_of d) has_account.part decides)

  pub own-HasLoadedDecided : get_or totals.upto loaded.first 0 ≡ (own_part loaded).published
  own-HasLoadedDecided =
      ap (λ upto. get_or upto loaded.first 0) so.upto
      ∙ (ap (λ p. get_or cut p 0) after_loads.first ∙ (so.own ∙ sym published_loaded))

  pub process-HasLoadedDecided : loaded.first < loaded.book.processes
  process-HasLoadedDecided = omega (arith, so.seat.known, after_loads.first, ap (λ (t : BookTerms). t.processes) book-HasLoadedDecided)

  -- the round is the next one there
  sound_decided : IsSoundRound b told.decided.first (prefix_of cut told.decided.seen) h.account next_round
  sound_decided =
      IsSoundRound-Decides b start told.decided h.account h.own.slot next_round next_round (word_of d) told.decides.proposal cut so.at_cut.history is_cut
      so.helping.asked.slot_in refl decides

  sound_loaded : IsSoundRound b loaded.first (prefix_of cut loaded.seen) h.account next_round
  sound_loaded =
      subst (λ p. IsSoundRound b p (prefix_of cut loaded.seen) h.account next_round) (sym (ap (λ (v : Knowledge). v.first) told.loads.same))
      (subst (λ (list : List Publication). IsSoundRound b told.decided.first (prefix_of cut list) h.account next_round) (sym seen_is) sound_decided)

  sees_loaded : SeesDecision loaded h.account next_round d
  sees_loaded =
      subst (λ (ds : List SeenDecision). Contains ds (record { account = h.account; round = next_round; decision = d }))
      (sym (ap (λ (v : Knowledge). v.decisions) told.loads.same)) told.decides.sees

  -- so its record may be published
  pub MayAppend-HasLoadedDecided : MayAppend b loaded rec
  MayAppend-HasLoadedDecided =
      subst (MayAppend b loaded) (sym told.record_is)
      (record {
        view = record {
          process = omega (arith, so.seat.known, after_loads.first);
          cut = cut_loaded;
          own = counts_own;
        };
        entry = (sound_loaded, inl (sees_loaded, (request_of told.request, told.loads.sees, refl)));
      })

  -- the record is published: the round is decided and published
  module _ (after : Knowledge) (published : Publishes b loaded after (published_by loaded.first rec)) where
    pub DecidesNext-HasLoadedDecided : DecidesNext b start after h cut d
    DecidesNext-HasLoadedDecided = record {
      unsettled = so.unsettled;
      proposal = told.decides.proposal;
      at_cut = told.decides.proposes.at_cut;
      may = told.decides.proposes.may;
      decided = told.decided;
      decides = told.decides.decides;
      publishes = record {
        loaded = loaded;
        request = told.request;
        loads = told.loads;
        published = subst (λ (r : Record). Publishes b loaded after (published_by loaded.first r)) told.record_is published;
      };
    }

    -- the totals stay so
    pub HasCounted-Publishes : HasCounted totals after.book after.seen
    HasCounted-Publishes =
        let x : Publication = published_by loaded.first rec in
        let more : IsPrefix start.seen after.seen =
        IsPrefix-trans start.seen loaded.seen after.seen after_loads.more
        (published.between ++ x ∷ [], published.seen ∙ append_assoc loaded.seen published.between (x ∷ [])) in
        let book : after.book ≡ b = ap (λ (v : Knowledge). v.book) published.same ∙ book-HasLoadedDecided in
        subst (λ (t : BookTerms). HasCounted totals t after.seen) (sym book) (StaysCounted-HasCounted totals b start.seen so.counted after.seen more)
