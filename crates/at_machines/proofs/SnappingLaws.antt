-- A snapshot from one turn to the next.
use Rattle.std.proofs.Common.{◌≡◌, ℕ, suc, ◌+◌, ◌-◌, ◌*◌, ◌<◌, ◌≤◌, List, length, get_or, refl, sym, ap, subst, ◌∙◌, arith, inl, inr, Option, Some, None}
use Rattle.at_machines.proofs.Prelude.{suc-mul, IsPrefix-refl, publication_at, IsPrefix, publications_of, Publication, Knowledge, loads_of, own_part, IsKept, SeatTerms, LoadsLength, BookTerms, HasLoaded-LoadsLength, HasLoaded-trans, parts-HasLoaded, IsSnapped-IsSnapping, IsSnapping-Again, IsSnapping-start, turns_left-some, IsAnswer-IsVerdictOn, OnCounts-IsAnswer, HasLoaded, IsCollect, collect_of, IsScanOf, ScanTerms, collects_after, starting_scan, IsSnapping, IsSnapshot, OnCounts, IsVerdictOn, answer_of, Collects, Verdict, Lent, Repeated, Undecided, Turn, CollectingTerms, LoadsLengthOf, collecting_after, starting_collecting, starting_loading, HasLoadedSoFar, IsSnapped, IsSnappingSo, LeadsTo, TurnsStage, scan_of, left_of, Stage, Borrow, Collect, Ended}

pub IsSnappingSo-start : (v : Knowledge) → IsKept v → IsSnappingSo v v None 0 (Collect (starting_collecting v))
IsSnappingSo-start v kept =
    let so : IsScanOf v.book (starting_scan v) v = record {
      process = refl;
      published = refl;
      started = IsPrefix-refl v.seen;
      marked = IsPrefix-refl v.seen;
      loads = λ p known. omega arith;
      collects = tt;
    } in
    record {
      kept = kept;
      book = refl;
      stage_so = (refl, kept.book.begun.some_process, inl refl, (0, IsSnapping-start v.book v 0 kept.own so));
    }

-- one more length is loaded
pub HasLoaded-HasLoadedSoFar : (b : BookTerms) (start v w : Knowledge) (p n : ℕ) → 0 < length start.parts → HasLoadedSoFar b start v → LoadsLength b v w p n
    → HasLoaded b start w
HasLoaded-HasLoadedSoFar b start v w p n part (inl none) told =
    HasLoaded-LoadsLength b start w p n part (subst (λ (t : Knowledge). LoadsLength b t w p n) none told)
HasLoaded-HasLoadedSoFar b start v w p n part (inr some) told =
    let here : 0 < length v.parts = omega (arith, part, parts-HasLoaded b start v some) in
    HasLoaded-trans b start v w part some (HasLoaded-LoadsLength b v w p n here told)

pub HasLoaded-IsSnappingSo : (b : BookTerms) (start mark w : Knowledge) (collects : Option Collects) (collected : ℕ) (c : CollectingTerms)
    → IsSnappingSo start mark collects collected (Collect c) → b ≡ start.book → LoadsLengthOf b mark w c.loaded → HasLoaded start.book start w
HasLoaded-IsSnappingSo b start mark w collects collected c so book told =
    HasLoaded-HasLoadedSoFar start.book start mark w c.loaded (loads_of (own_part w) c.loaded).last (omega (arith, so.kept.one_part)) so.stage_so.2
    (subst (λ (t : BookTerms). LoadsLengthOf t mark w c.loaded) book told)

-- the collect goes on
pub IsSnappingSo-load : (start mark w : Knowledge) (collects : Option Collects) (collected : ℕ) (c : CollectingTerms) → IsSnappingSo start mark collects collected (Collect c)
    → w.book ≡ start.book → c.loaded + 1 < start.book.processes → HasLoaded start.book start w
    → IsSnappingSo start w collects collected (Collect (collecting_after c w))
IsSnappingSo-load start mark w collects collected c so book left loaded = record {
  kept = so.kept;
  book = book;
  stage_so = (refl, left, inr loaded, so.stage_so.3);
}

-- the counts that serve are a snapshot
IsSnapped-served : (start mark w : Knowledge) (collects : Option Collects) (collected : ℕ) (c : CollectingTerms) (verdict : Verdict) (counts : List ℕ)
    → IsSnappingSo start mark collects collected (Collect c) → IsCollect start.book c.start w → IsVerdictOn collects w.first (collect_of w) verdict
    → (OnCounts (answer_of verdict w (collect_of w)) (IsSnapshot start.book start w) → IsSnapshot start.book start w counts)
    → IsSnapped start.book start w counts
IsSnapped-served start mark w collects collected c verdict counts so told is serves =
    let scan : ScanTerms = scan_of start c.start collects in
    let turn : Turn = answer_of verdict w (collect_of w) in
    let so_far : IsSnapping start.book start scan c.start 0 so.stage_so.3.0 collected = so.stage_so.3.1 in
    let some : 0 < length start.parts = omega (arith, so.kept.one_part) in
    let known : c.start.first < start.book.processes = omega (arith, so.kept.known, so_far.scan_of.process) in
    let snapped = IsSnapped-IsSnapping start.book start scan c.start w 0 so.stage_so.3.0 collected turn some so.kept.known so_far told in
    record {
      snapshot = serves (OnCounts-IsAnswer start.book start c.start collects c.start w turn so_far.own so_far.scan_of known told
          (IsAnswer-IsVerdictOn start c.start collects w verdict is));
      loads = snapped.loads;
      collects = snapped.collects;
    }

pub IsSnapped-Repeated : (start mark w : Knowledge) (collects : Option Collects) (collected : ℕ) (c : CollectingTerms) → IsSnappingSo start mark collects collected (Collect c)
    → IsCollect start.book c.start w → IsVerdictOn collects w.first (collect_of w) Repeated → IsSnapped start.book start w (collect_of w)
IsSnapped-Repeated start mark w collects collected c so told is =
    IsSnapped-served start mark w collects collected c Repeated (collect_of w) so told is (λ serves. serves)

pub IsSnapped-Lent : (start mark w : Knowledge) (collects : Option Collects) (collected : ℕ) (c : CollectingTerms) (p : ℕ) → IsSnappingSo start mark collects collected (Collect c)
    → IsCollect start.book c.start w → IsVerdictOn collects w.first (collect_of w) (Lent p)
    → IsSnapped start.book start w (publication_at (publications_of p w.seen) (get_or (collect_of w) p 0 - 1)).view
IsSnapped-Lent start mark w collects collected c p so told is =
    IsSnapped-served start mark w collects collected c (Lent p) (publication_at (publications_of p w.seen) (get_or (collect_of w) p 0 - 1)).view so told is
    (λ serves. serves)

-- the view that is lent is loaded next
pub IsSnappingSo-Lent : (start mark w : Knowledge) (collects : Option Collects) (collected : ℕ) (c : CollectingTerms) (p : ℕ) → IsSnappingSo start mark collects collected (Collect c)
    → w.book ≡ start.book → IsCollect start.book c.start w → IsVerdictOn collects w.first (collect_of w) (Lent p)
    → IsSnappingSo start w collects collected (Borrow (starting_loading w p (get_or (collect_of w) p 0 - 1)))
IsSnappingSo-Lent start mark w collects collected c p so book told is = record {
  kept = so.kept;
  book = book;
  stage_so = (refl, so.kept.book.begun.some_process, IsSnapped-Lent start mark w collects collected c p so told is);
}

-- one more collect comes next
more_snapping : (start mark w : Knowledge) (collects : Option Collects) (collected : ℕ) (c : CollectingTerms) → (so : IsSnappingSo start mark collects collected (Collect c))
    → IsCollect start.book c.start w → IsVerdictOn collects w.first (collect_of w) Undecided
    → IsSnapping start.book start (scan_of start w (Some (collects_after collects (collect_of w)))) w 0 (so.stage_so.3.0 + start.book.processes) (collected + 1)
more_snapping start mark w collects collected c so told is =
    let some : 0 < length start.parts = omega (arith, so.kept.one_part) in
    IsSnapping-Again start.book start (scan_of start c.start collects) c.start w 0 so.stage_so.3.0 collected some so.stage_so.3.1 told
    (IsAnswer-IsVerdictOn start c.start collects w Undecided is)

pub IsSnappingSo-Undecided : (start mark w : Knowledge) (collects : Option Collects) (collected : ℕ) (c : CollectingTerms) → IsSnappingSo start mark collects collected (Collect c)
    → w.book ≡ start.book → IsCollect start.book c.start w → IsVerdictOn collects w.first (collect_of w) Undecided
    → IsSnappingSo start w (Some (collects_after collects (collect_of w))) (collected + 1) (Collect (starting_collecting w))
IsSnappingSo-Undecided start mark w collects collected c so book told is =
    let k : Collects = collects_after collects (collect_of w) in
    let more = more_snapping start mark w collects collected c so told is in
    record {
      kept = so.kept;
      book = book;
      stage_so = (
        refl,
        so.kept.book.begun.some_process,
        inr (more.loaded k refl),
        (so.stage_so.3.0 + start.book.processes, more),
      );
    }

-- the collect that follows is not the last one that may
left_after : (n k loaded : ℕ) → k + 1 ≤ n → loaded + 1 ≡ n → (n - (k + 1)) * n + (n - 0) + n < (n - k) * n + (n - loaded) + n
left_after n k loaded few last =
    let one : n - k ≡ suc (n - (k + 1)) = omega arith in
    let split : (n - k) * n ≡ (n - (k + 1)) * n + n = ap (λ m. m * n) one ∙ suc-mul (n - (k + 1)) n in
    omega (arith, split)

-- n collects at most are not the last
few_collected : (start mark w : Knowledge) (collects : Option Collects) (collected : ℕ) (c : CollectingTerms)
    → IsSnappingSo start mark collects collected (Collect c) → IsCollect start.book c.start w → IsVerdictOn collects w.first (collect_of w) Undecided
    → collected + 1 ≤ start.book.processes
few_collected start mark w collects collected c so told is =
    let after = more_snapping start mark w collects collected c so told is in
    omega (
      arith,
      after.few,
      turns_left-some start.book start w (Some (collects_after collects (collect_of w))) w so.kept.known after.own after.scan_of (λ k at. after.loaded k at),
    )

pub left_of-Undecided : (start mark w : Knowledge) (collects : Option Collects) (collected : ℕ) (c : CollectingTerms)
    → IsSnappingSo start mark collects collected (Collect c) → c.loaded + 1 ≡ start.book.processes → IsCollect start.book c.start w
    → IsVerdictOn collects w.first (collect_of w) Undecided
    → left_of start.book.processes (collected + 1) (Collect (starting_collecting w)) < left_of start.book.processes collected (Collect c)
left_of-Undecided start mark w collects collected c so last told is =
    left_after start.book.processes collected c.loaded (few_collected start mark w collects collected c so told is) last

-- a turn that leaves a collect unfinished
pub TurnsStage-load : (seen : List Publication) (start : Knowledge) (before after : SeatTerms) (collects : Option Collects) (collected : ℕ) (c : CollectingTerms)
    → IsSnappingSo start before.knows collects collected (Collect c) → after.knows.book ≡ start.book → c.loaded + 1 < start.book.processes
    → LoadsLengthOf start.book before.knows after.knows c.loaded → IsPrefix seen after.knows.seen
    → TurnsStage start.book seen start before after collected (Collect c) collects collected (Collect (collecting_after c after.knows)) None
TurnsStage-load seen start before after collects collected c so book left load more =
    let loads = HasLoaded-IsSnappingSo start.book start before.knows after.knows collects collected c so refl load in
    record {
      so = IsSnappingSo-load start before.knows after.knows collects collected c so book left loads;
      load = (load, more);
      loads = loads;
      follows = (λ more. refl, λ whole. absurd (omega (arith, whole, left)));
      left = omega (arith, left);
      ends = (λ some. absurd (cc some), λ none. absurd (omega (arith, none, left)));
      snapped = tt;
    }

-- a turn that ends one, by what that says
pub TurnsStage-judge : (seen : List Publication) (start : Knowledge) (before after : SeatTerms) (collects more : Option Collects) (collected : ℕ) (c : CollectingTerms) (verdict : Verdict)
    (next : Stage) (counts : Option (List ℕ)) → IsSnappingSo start before.knows collects collected (Collect c) → after.knows.book ≡ start.book
    → c.loaded + 1 ≡ start.book.processes → LoadsLengthOf start.book before.knows after.knows c.loaded → IsPrefix seen after.knows.seen
    → IsCollect start.book c.start after.knows
    → IsVerdictOn collects after.knows.first (collect_of after.knows) verdict → LeadsTo after.knows (collect_of after.knows) collects verdict more next counts
    → TurnsStage start.book seen start before after collected (Collect c) more (collected + 1) next counts
TurnsStage-judge seen start before after collects more collected c Repeated next counts so book last load after_seen told is (ended, answered) =
    subst (λ (stage : Stage). TurnsStage start.book seen start before after collected (Collect c) more (collected + 1) stage counts) (sym ended)
    (subst (λ (answer : Option (List ℕ)). TurnsStage start.book seen start before after collected (Collect c) more (collected + 1) Ended answer) (sym answered)
    (record {
      so = record { kept = so.kept; book = book; stage_so = tt };
      load = (load, after_seen);
      loads = HasLoaded-IsSnappingSo start.book start before.knows after.knows collects collected c so refl load;
      follows = (λ less. absurd (omega (arith, less, last)), λ whole. tt);
      left = omega (arith, last);
      ends = (λ some. refl, λ none. refl);
      snapped = IsSnapped-Repeated start before.knows after.knows collects collected c so told is;
    }))
TurnsStage-judge seen start before after collects more collected c (Lent p) next counts so book last load after_seen told is (ended, answered) =
    let lent = IsSnappingSo-Lent start before.knows after.knows collects collected c p so book told is in
    let view : Stage = Borrow (starting_loading after.knows p (get_or (collect_of after.knows) p 0 - 1)) in
    subst (λ (stage : Stage). TurnsStage start.book seen start before after collected (Collect c) more (collected + 1) stage counts) (sym ended)
    (subst (λ (answer : Option (List ℕ)). TurnsStage start.book seen start before after collected (Collect c) more (collected + 1) view answer) (sym answered)
    (record {
      so = record { kept = lent.kept; book = lent.book; stage_so = lent.stage_so };
      load = (load, after_seen);
      loads = HasLoaded-IsSnappingSo start.book start before.knows after.knows collects collected c so refl load;
      follows = (λ less. absurd (omega (arith, less, last)), λ whole. (refl, refl));
      left = omega (arith, last);
      ends = (λ some. absurd (cc some), λ none. absurd (omega (arith, none, last)));
      snapped = tt;
    }))
TurnsStage-judge seen start before after collects more collected c Undecided next counts so book last load after_seen told is (ended, answered, kept) =
    subst (λ (stage : Stage). TurnsStage start.book seen start before after collected (Collect c) more (collected + 1) stage counts) (sym ended)
    (subst (λ (answer : Option (List ℕ)). TurnsStage start.book seen start before after collected (Collect c) more (collected + 1) (Collect (starting_collecting after.knows)) answer)
    (sym answered)
    (subst (λ (k : Option Collects). TurnsStage start.book seen start before after collected (Collect c) k (collected + 1) (Collect (starting_collecting after.knows)) None) (sym kept)
    (record {
      so = IsSnappingSo-Undecided start before.knows after.knows collects collected c so book told is;
      load = (load, after_seen);
      loads = HasLoaded-IsSnappingSo start.book start before.knows after.knows collects collected c so refl load;
      follows = (λ less. absurd (omega (arith, less, last)), λ whole. refl);
      left = left_of-Undecided start before.knows after.knows collects collected c so last told is;
      ends = (λ some. absurd (cc some), λ none. absurd (omega (arith, none, last)));
      snapped = tt;
    })))
