-- What was loaded before a call's request was announced stays known, and so does the snapshot that was taken by then.
use Rattle.std.proofs.Common.{◌≡◌, ℕ, ◌<◌, List, [], ◌∷◌, length, get_or, map, refl, sym, ap, subst, ◌∙◌, arith, inl, inr}
use Rattle.at_payments.proofs.Prelude.{get_or-set_same, get_or_append_left, TargetPair, BookTerms, IsCut-IsPrefix, prefix_of-IsPrefix, ArePublishedBy-IsHistory, IsPrefix-length, publication_at, IsPrefix, no_publication, rounds, Publication, Request, SeenRow, Decision, IsBorrowed, asking_on, no_asking, no_part, own_part, part_asking, Announces, with_request, Asking, Knowledge, LoadedWord, Loads, Part, Receipt, HasAccount, request_of, LoadsOnly, with_loads, HelpAnswers, HelpsDecide, HelpingTerms, HasStarted, loads_asked, HasTurned, SettlesInTurns, none, again, StandsAfter, StandsAfterSnapshot, as_asked, HelpTurn, Settled, More, HasLoaded, SeesOwnRecords, IsSnapshot}
use Rattle.at_payments.proofs.SharedLaws.Added.{Adds, Adds-HasLoaded, Adds-HasStarted, Adds-trans, HasAccount-Adds}
use Rattle.at_payments.proofs.SharedLaws.After.{IsAfter-HasLoaded, HasAccount-IsAfter}
use Rattle.at_payments.proofs.SharedLaws.Started.{asking_on-HasLoaded}
use Rattle.at_payments.proofs.SharedLaws.Starting.{HasAccount-Keeps, Keeps-Announces, Keeps-HasLoaded}
use Rattle.at_payments.proofs.SharedLaws.Turning.{Adds-HelpAnswers, IsAfter-DecidesNext}
use Rattle.at_payments.proofs.SharedLaws.Turns.{Adds-HasTurned}

-- an announcement keeps the loads up to it
loads-Announces : (b : BookTerms) (v w : Knowledge) (a slot : ℕ) (r : Request) → HasAccount v a → Announces b v w a slot r
    → loads_asked w a ≡ (own_part v).loads
loads-Announces b v w a slot r has told =
    let t : Asking = with_request (asking_on (own_part v) a) r (rounds a w.seen) (own_part v).loads in
    ap (λ (k : Knowledge). (asking_on (own_part k) a).loads) told.same
    ∙ (ap (λ (p : Part). (asking_on p a).loads) (get_or-set_same v.parts 0 (part_asking (own_part v) a t) no_part has.part)
    ∙ ap (λ (u : Asking). u.loads) (get_or-set_same (own_part v).asking a t no_asking has.inside))

-- loads of rows and requests leave them
loads-LoadsOnly : (v w : Knowledge) (a : ℕ) (rows : List SeenRow) (words : List LoadedWord) → HasAccount v a → LoadsOnly v w a rows words
    → loads_asked w a ≡ loads_asked v a
loads-LoadsOnly v w a rows words has told =
    let t : Asking = with_loads (asking_on (own_part v) a) rows words in
    ap (λ (k : Knowledge). (asking_on (own_part k) a).loads) told.same
    ∙ (ap (λ (p : Part). (asking_on p a).loads) (get_or-set_same v.parts 0 (part_asking (own_part v) a t) no_part has.part)
    ∙ ap (λ (u : Asking). u.loads) (get_or-set_same (own_part v).asking a t no_asking has.inside))

-- so after a start they are those of its snapshot
pub loads-HasStarted : (b : BookTerms) (v w : Knowledge) (h : HelpingTerms) (started : HasStarted b v w h) → HasAccount v h.account
    → loads_asked w h.account ≡ (own_part started.looked).loads
loads-HasStarted b v w h started has =
    let a = h.account in
    let looked = HasAccount-Keeps v started.looked a (Keeps-HasLoaded b v started.looked has.part started.loads) has in
    let asked = HasAccount-Keeps started.looked started.asked a
    (Keeps-Announces b started.looked started.asked a h.own.slot (request_of h.own) looked started.announced) looked in
    loads-LoadsOnly started.asked w a started.rows started.words asked started.row_loads
    ∙ loads-Announces b started.looked started.asked a h.own.slot (request_of h.own) looked started.announced

-- and a turn leaves them
loads-HelpsDecide : (b : BookTerms) (v z : Knowledge) (h : HelpingTerms) (d : Decision) → HasAccount v h.account → HelpsDecide b v z h d
    → loads_asked z h.account ≡ loads_asked v h.account
loads-HelpsDecide b v z h d has helps =
    let a = h.account in
    let w : Knowledge = helps.looked in
    let looked = HasAccount-IsAfter v w a 0 [] (IsAfter-HasLoaded b v w a has.part helps.loads) has in
    ap (λ (t : Asking). t.loads) (IsAfter-DecidesNext b w z h helps.cut d helps.next looked).asking
    ∙ ap (λ (t : Asking). t.loads) (asking_on-HasLoaded b v w a has.part helps.loads)

pub loads-HelpAnswers : (b : BookTerms) (v z : Knowledge) (h : HelpingTerms) (answer : HelpTurn) → HasAccount v h.account → HelpAnswers b v z h answer
    → loads_asked z h.account ≡ loads_asked v h.account
loads-HelpAnswers b v z h (Settled answer) has (inl finds) = ap (λ (t : Asking). t.loads) (asking_on-HasLoaded b v z h.account has.part finds.loads)
loads-HelpAnswers b v z h (Settled answer) has (inr (d, helps, own)) = loads-HelpsDecide b v z h d has helps
loads-HelpAnswers b v z h More has (d, helps, other) = loads-HelpsDecide b v z h d has helps

loads-HasTurned : (b : BookTerms) (h : HelpingTerms) (u w : Knowledge) (turns : ℕ) → HasAccount u h.account → HasTurned b h u turns w
    → loads_asked w h.account ≡ loads_asked u h.account
loads-HasTurned b h u _ _ has none = refl
loads-HasTurned b h u _ _ has (again turns before after turned answers) =
    loads-HelpAnswers b before after h More (HasAccount-Adds b u before h.account h.account [] (Adds-HasTurned b h u before turns has turned) has) answers
    ∙ loads-HasTurned b h u before turns has turned

-- where nothing more was loaded by the announcement, a snapshot is one of what the seat had loaded by then and has seen since
module _ (b : BookTerms) (v w z : Knowledge) (a : ℕ) (cut : List ℕ) (snapshot : IsSnapshot b v w cut) (loads : HasLoaded b v w)
    (more : IsPrefix w.seen z.seen) (first : z.first ≡ w.first) (part : 0 < length z.parts) (kept : loads_asked z a ≡ (own_part w).loads) where
  pub loads-as_asked : (own_part (as_asked z a)).loads ≡ (own_part w).loads
  loads-as_asked = ap (λ (q : Part). q.loads) (get_or-set_same z.parts 0 (record (own_part z) { loads = loads_asked z a }) no_part part) ∙ kept

  IsBorrowed-as_asked : (m : ℕ) → IsBorrowed v w cut m → IsBorrowed v (as_asked z a) cut m
  IsBorrowed-as_asked m lent =
      let same : publication_at z.seen m ≡ publication_at w.seen m =
      ap (λ xs. publication_at xs m) more.1 ∙ get_or_append_left w.seen more.0 no_publication m lent.seen in
      record {
        later = lent.later;
        seen = omega (arith, lent.seen, IsPrefix-length w.seen z.seen more);
        other = λ e. lent.other (sym (ap (λ (y : Publication). y.process) same) ∙ (e ∙ first));
        same = ap (λ (y : Publication). y.view) same ∙ lent.same;
      }

  pub IsSnapshot-as_asked : IsSnapshot b v (as_asked z a) cut
  IsSnapshot-as_asked =
      let published = ArePublishedBy-IsHistory b w.seen loads.history in
      record {
        cut = IsCut-IsPrefix b.processes cut w.seen z.seen snapshot.cut published more;
        begins = subst (IsPrefix v.seen) (sym (prefix_of-IsPrefix b.processes cut w.seen z.seen snapshot.cut published more)) snapshot.begins;
        fresh = record {
          loaded = λ p within. omega (
            arith,
            snapshot.fresh.loaded p within,
            ap (λ (ls : List Loads). (get_or ls p (record { times = 0; last = 0 })).times) loads-as_asked,
          );
          taken = elim snapshot.fresh.taken [
            | inl last ↦ inl (last ∙ ap (λ (ls : List Loads). map (λ (l : Loads). l.last) ls) (sym loads-as_asked))
            | inr lent ↦ inr (lent.0, IsBorrowed-as_asked lent.0 lent.1)
          ];
        };
        own = snapshot.own;
      }

-- a request that was started and turned for until it was settled stands after the snapshot of the start
module _ (b : BookTerms) (v u y z : Knowledge) (h : HelpingTerms) (starts : HasStarted b v u h) (turns : ℕ) (turned : HasTurned b h u turns y)
    (answer : HelpTurn) (answers : HelpAnswers b y z h answer) (has : HasAccount v h.account) (sees : SeesOwnRecords u) where
  looks : Adds b v starts.looked h.account []
  looks = Adds-HasLoaded b v starts.looked h.account starts.cut has.part starts.loads starts.snapshot

  asks : Adds b starts.looked u h.account (request_of h.own ∷ [])
  asks = Adds-HasStarted b v u h starts has sees

  has_started : HasAccount u h.account
  has_started = HasAccount-Adds b starts.looked u h.account h.account (request_of h.own ∷ []) asks (HasAccount-Adds b v starts.looked h.account h.account [] looks has)

  has_turned : HasAccount y h.account
  has_turned = HasAccount-Adds b u y h.account h.account [] (Adds-HasTurned b h u y turns has_started turned) has_started

  since_look : Adds b starts.looked z h.account (request_of h.own ∷ [])
  since_look =
      Adds-trans b starts.looked u z h.account (request_of h.own ∷ []) [] asks
      (Adds-trans b u y z h.account [] [] (Adds-HasTurned b h u y turns has_started turned) (Adds-HelpAnswers b y z h answer has_turned answers))

  kept_loads : loads_asked z h.account ≡ (own_part starts.looked).loads
  kept_loads =
      loads-HelpAnswers b y z h answer has_turned answers ∙ (loads-HasTurned b h u y turns has_started turned ∙ loads-HasStarted b v u h starts has)

  part_after : 0 < length z.parts
  part_after = omega (arith, since_look.parts, looks.parts, has.part)

  StandsAfterSnapshot-turns : (r : Receipt) → StandsAfter h.own.since z r → StandsAfterSnapshot b v z h.account r
  StandsAfterSnapshot-turns r after =
      let same = loads-as_asked b v starts.looked z h.account starts.cut starts.snapshot starts.loads since_look.more since_look.first part_after kept_loads in
      record {
        cut = starts.cut;
        looked = starts.looked;
        taken = starts.snapshot;
        loads = starts.loads;
        more = since_look.more;
        loads_kept = same;
        request = request_of h.own;
        announced = (Adds-trans b v starts.looked z h.account [] (request_of h.own ∷ []) looks since_look).announced;
        snapshot = IsSnapshot-as_asked b v starts.looked z h.account starts.cut starts.snapshot starts.loads since_look.more since_look.first part_after kept_loads;
        since = starts.since;
        times = λ p known. omega (
          arith,
          since_look.times p known,
          ap (λ (ls : List Loads). (get_or ls p (record { times = 0; last = 0 })).times) same,
        );
        after_cut = λ previous. omega (arith, after previous, starts.since);
      }

pub StandsAfterSnapshot-SettlesInTurns : (b : BookTerms) (v z : Knowledge) (a : ℕ) (targets : List TargetPair) (by : SettlesInTurns b v z a targets) (r : Receipt) → HasAccount v a
    → SeesOwnRecords by.started → StandsAfter by.helping.own.since z r → StandsAfterSnapshot b v z a r
StandsAfterSnapshot-SettlesInTurns b v z a targets by r has sees after =
    let h : HelpingTerms = by.helping in
    subst (λ c. StandsAfterSnapshot b v z c r) by.account
    (StandsAfterSnapshot-turns b v by.started by.last z h by.starts by.turns by.turned (Settled (r.reply, r.at)) by.settles (subst (HasAccount v) (sym by.account) has) sees r after)
