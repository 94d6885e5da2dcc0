-- Totals that catch up, from one turn to the next.
use Rattle.std.proofs.Common.{◌≡◌, ◌≢◌, ◌↔◌, ℕ, ◌+◌, ◌-◌, ◌*◌, ◌^◌, ◌<◌, ◌≤◌, Bool, true, false, not, IsTrue, List, [], length, get_or, set, refl, sym, ap, subst, arith, inl, inr, Option, Some, None, get_or-set_other, get_or-set_same, length-set, if◌then◌else◌, ◌∙◌}
use Rattle.at_machines.proofs.Prelude.{cases_eq, cases_lt, eq-eqb, ne_eqb, sum, is_some, Covers, BookTerms, get_or-counts, length-counts, sum-Covers-le, log_room_of-le, count_of, Entry, Publication, IsKept, Knowledge, BoardStep, BoardWord, RECORD_WORDS, MayCount-IsCatchingUp, count_of-IsCatchingUp, IsCatchingUp-more, upto-IsCatchingUp, sum-caught, IsCatchingUp, HasCounted, MayCount, TotalSums, IsEntryOf, CatchingUpTerms, CountsNext, FollowsLoad, catch_step, loaded_of, IsCatchingUpSo, IsLoadingNext, LoadingTerms, entry_step, loading_after, starting_loading}

-- of the processes up to this one nothing is left to count
past : (b : BookTerms) (seen : List Publication) (counts start : List ℕ) (t : TotalSums) (p p' : ℕ) → IsCatchingUp b seen counts start t p → p' ≤ length counts
    → ((q : ℕ) → p ≤ q → q < p' → get_or counts q 0 ≤ get_or t.upto q 0) → IsCatchingUp b seen counts t.upto t p'
past b seen counts start t p p' so within none_left = record {
  counted = so.counted;
  records = so.records;
  more = so.more;
  done = λ q below. elim (cases_lt q p) as (λ _. get_or t.upto q 0 ≡ get_or counts q 0) [
    | inl before ↦ so.done q before
    | inr after ↦ omega (arith, none_left q after below, so.more q (omega (arith, below, within)))
  ];
  kept = λ q above. refl;
}

loading_next : (v : Knowledge) (counts : List ℕ) (t : TotalSums) (p : ℕ) (loading : Option LoadingTerms) → length counts ≡ v.book.processes
    → (p < length counts → get_or t.upto p 0 < get_or counts p 0) → (length counts ≤ p → loading ≡ None)
    → (p < length counts → loading ≡ Some (starting_loading v p (get_or t.upto p 0))) → IsLoadingNext v counts t p loading
loading_next v counts t p loading sized left none some =
    elim (cases_lt p (length counts)) as (λ _. IsLoadingNext v counts t p loading) [
      | inl below ↦
          subst (IsLoadingNext v counts t p) (sym (some below)) (omega (arith, below, sized), left below, omega arith, refl)
      | inr past_all ↦ subst (IsLoadingNext v counts t p) (sym (none past_all)) (omega (arith, past_all, sized))
    ]

-- the next record is that of the first process that is left, from this one on
pub IsCatchingUpSo-next : (v : Knowledge) (counts start : List ℕ) (t : TotalSums) (p p' : ℕ) (loading : Option LoadingTerms) → IsKept v
    → IsCatchingUp v.book v.seen counts start t p → p' ≤ length counts → ((q : ℕ) → p ≤ q → q < p' → get_or counts q 0 ≤ get_or t.upto q 0)
    → (p' < length counts → get_or t.upto p' 0 < get_or counts p' 0) → (length counts ≤ p' → loading ≡ None)
    → (p' < length counts → loading ≡ Some (starting_loading v p' (get_or t.upto p' 0))) → IsCatchingUpSo v counts t p' loading
IsCatchingUpSo-next v counts start t p p' loading kept so within none_left left none some = record {
  kept = kept;
  catching = past v.book v.seen counts start t p p' so within none_left;
  within = omega (arith, within, so.records.sized);
  loading_so = loading_next v counts t p' loading so.records.sized left none some;
}

-- the process's next record has been seen
pub count_of-left : (v : Knowledge) (counts start : List ℕ) (t : TotalSums) (p p' : ℕ) → IsCatchingUp v.book v.seen counts start t p → p' < length counts
    → get_or t.upto p' 0 < get_or counts p' 0 → get_or t.upto p' 0 < count_of p' v.seen
count_of-left v counts start t p p' so inside left =
    let n : ℕ = v.book.processes in
    let known : p' < n = omega (arith, inside, so.records.sized) in
    omega (arith, left, so.records.within p' (omega (arith, known, length-counts n v.seen)), get_or-counts n v.seen p' 0 known)

-- something is left, where some process has more to count
pub sum-left : (b : BookTerms) (seen : List Publication) (counts start : List ℕ) (t : TotalSums) (p : ℕ) → IsCatchingUp b seen counts start t p → p < b.processes
    → get_or t.upto p 0 < get_or counts p 0 → sum t.upto < sum counts
sum-left b seen counts start t p so known left =
    let n : ℕ = get_or counts p 0 in
    let inside : p < length t.upto = omega (arith, known, so.counted.processes) in
    let covers : Covers counts (set t.upto p n) = λ q within.
    elim (cases_eq q p) as (λ _. get_or (set t.upto p n) q 0 ≤ get_or counts q 0) [
      | inl same ↦ omega (arith, ap (λ k. get_or (set t.upto p n) k 0) same, get_or-set_same t.upto p n 0 inside, ap (λ k. get_or counts k 0) same)
      | inr apart ↦ omega (arith, get_or-set_other t.upto p q n 0 apart, so.more q within)
    ] in
    omega (
      arith,
      left,
      sum-caught t.upto p n inside (omega arith),
      sum-Covers-le counts (set t.upto p n) (omega (arith, so.records.sized, so.counted.processes, length-set t.upto p n)) covers,
    )

-- nothing is left, where no record is loaded
pub upto-IsCatchingUpSo : (v : Knowledge) (counts : List ℕ) (t : TotalSums) (p : ℕ) → IsCatchingUpSo v counts t p None → t.upto ≡ counts
upto-IsCatchingUpSo v counts t p so = upto-IsCatchingUp v.book v.seen counts t.upto t p so.loading_so so.catching

-- and only there
pub left-IsCatchingUpSo : (v : Knowledge) (counts : List ℕ) (t : TotalSums) (p : ℕ) (l : LoadingTerms) → IsCatchingUpSo v counts t p (Some l)
    → l.loaded < RECORD_WORDS * (sum counts - sum t.upto)
left-IsCatchingUpSo v counts t p l so =
    let left : sum t.upto < sum counts = sum-left v.book v.seen counts t.upto t p so.catching so.loading_so.0 so.loading_so.1 in
    omega (arith, left, so.loading_so.2)

-- the next load, where a record is loaded and where none is
pub catch_step-Some : (v : Knowledge) (counts : List ℕ) (t : TotalSums) (p : ℕ) (l : LoadingTerms) → IsCatchingUpSo v counts t p (Some l)
    → entry_step l ≡ catch_step (record { counts = counts; knows = v; totals = t; process = p; loaded = l.loaded; words = l.words })
catch_step-Some v counts t p l so =
    let few : l.loaded < RECORD_WORDS = so.loading_so.2 in
    let left = left-IsCatchingUpSo v counts t p l so in
    let step : BoardStep = BoardStep.Load (BoardWord.Record p (get_or t.upto p 0) l.loaded) in
    ap (λ k. if k then None else Some (BoardStep.Load (BoardWord.Record l.process l.number l.loaded))) (ne_eqb l.loaded RECORD_WORDS (λ all. absurd (omega (arith, all, few))))
    ∙ (ap (λ (k : LoadingTerms). Some (BoardStep.Load (BoardWord.Record k.process k.number l.loaded))) so.loading_so.3
    ∙ sym (ap (λ k. if k then None else Some step)
    (ne_eqb (RECORD_WORDS * (sum counts - sum t.upto) - l.loaded) 0 (λ none. absurd (omega (arith, none, left))))))

pub catch_step-None : (v : Knowledge) (counts : List ℕ) (t : TotalSums) (p : ℕ) → IsCatchingUpSo v counts t p None
    → catch_step (record { counts = counts; knows = v; totals = t; process = p; loaded = 0; words = [] }) ≡ None
catch_step-None v counts t p so =
    let step : BoardStep = BoardStep.Load (BoardWord.Record p (get_or t.upto p 0) 0) in
    ap (λ k. if k then None else Some step)
    (eq-eqb (RECORD_WORDS * (sum counts - sum t.upto) - 0) 0 (omega (arith, ap (λ (l : List ℕ). sum l) (upto-IsCatchingUpSo v counts t p so))))

-- one more word of a record is loaded, which isn't its last
pub FollowsLoad-word : (v : Knowledge) (counts : List ℕ) (t : TotalSums) (p : ℕ) (l m : LoadingTerms) → IsCatchingUpSo v counts t p (Some l)
    → m ≡ loading_after l l.loaded → l.loaded + 1 ≢ RECORD_WORDS
    → FollowsLoad (record { counts = counts; knows = v; totals = t; process = p; loaded = l.loaded; words = l.words })
    (record { counts = counts; knows = v; totals = t; process = p; loaded = m.loaded; words = m.words })
FollowsLoad-word v counts t p l m so after more =
    let next : LoadingTerms → CatchingUpTerms = λ k. record { counts = counts; knows = v; totals = t; process = p; loaded = k.loaded; words = k.words } in (
      λ few. ap next (after ∙ ap (λ k. loading_after k l.loaded) so.loading_so.3),
      λ last. absurd (more last),
    )

pub IsCatchingUpSo-word : (v : Knowledge) (counts : List ℕ) (t : TotalSums) (p : ℕ) (l m : LoadingTerms) → IsCatchingUpSo v counts t p (Some l)
    → m ≡ loading_after l l.loaded → l.loaded + 1 ≢ RECORD_WORDS → IsCatchingUpSo v counts t p (Some m)
IsCatchingUpSo-word v counts t p l m so after more =
    let loaded : m.loaded ≡ l.loaded + 1 = ap (λ (k : LoadingTerms). k.loaded) after in
    let is : LoadingTerms → LoadingTerms = λ k. record m { knows = k.knows; process = k.process; number = k.number } in
    record {
      kept = so.kept;
      catching = so.catching;
      within = so.within;
      loading_so = (
        so.loading_so.0,
        so.loading_so.1,
        omega (arith, loaded, more, so.loading_so.2),
        ap is after ∙ ap is so.loading_so.3,
      );
    }

-- whether no record is loaded
pub upto-ended : (v : Knowledge) (counts : List ℕ) (t : TotalSums) (p : ℕ) (loading : Option LoadingTerms) (ended : Bool)
    → IsCatchingUpSo v counts t p loading → is_some loading ≡ not ended → IsTrue ended → t.upto ≡ counts
upto-ended v counts t p None ended so none so_ended = upto-IsCatchingUpSo v counts t p so
upto-ended v counts t p (Some l) true so none so_ended = let wrong : true ≡ false = none in absurd (cc wrong)
upto-ended v counts t p (Some l) false so none so_ended = let wrong : false ≡ true = so_ended in absurd (cc wrong)

pub IsEnded-IsCatchingUpSo : (v : Knowledge) (counts : List ℕ) (t : TotalSums) (p : ℕ) (loading : Option LoadingTerms) (ended : Bool)
    → IsCatchingUpSo v counts t p loading → is_some loading ≡ not ended
    → IsTrue ended ↔ (RECORD_WORDS * (sum counts - sum t.upto) - loaded_of loading ≡ 0)
IsEnded-IsCatchingUpSo v counts t p None true so none =
    (λ so_ended. omega (arith, ap (λ (l : List ℕ). sum l) (upto-IsCatchingUpSo v counts t p so)), λ nothing. refl)
IsEnded-IsCatchingUpSo v counts t p None false so none = let wrong : false ≡ true = none in absurd (cc wrong)
IsEnded-IsCatchingUpSo v counts t p (Some l) true so none = let wrong : true ≡ false = none in absurd (cc wrong)
IsEnded-IsCatchingUpSo v counts t p (Some l) false so none =
    (λ so_ended. let wrong : false ≡ true = so_ended in absurd (cc wrong), λ nothing. absurd (omega (arith, nothing, left-IsCatchingUpSo v counts t p l so)))

-- some load is left where some record is loaded
pub none_left : (v : Knowledge) (counts : List ℕ) (t : TotalSums) (p : ℕ) (loading : Option LoadingTerms) → IsCatchingUpSo v counts t p loading
    → loading ≡ None → RECORD_WORDS * (sum counts - sum t.upto) - loaded_of loading ≡ 0
none_left v counts t p loading so none = (IsEnded-IsCatchingUpSo v counts t p loading true so (ap (λ (l : Option LoadingTerms). is_some l) none)).0 refl

module _ (v : Knowledge) (counts : List ℕ) (t : TotalSums) (p : ℕ) (l : LoadingTerms) (so : IsCatchingUpSo v counts t p (Some l)) where
  -- the number of the record after this one fits
  pub more-IsCatchingUpSo : get_or t.upto p 0 + 1 < 2 ^ 32
  more-IsCatchingUpSo =
      omega (
        arith,
        so.loading_so.1,
        count_of-IsCatchingUp v.book v.seen counts t.upto t p so.loading_so.0 so.catching,
        so.kept.history.room p so.loading_so.0,
        log_room_of-le v.book p so.kept.book.begun,
      )

  pub MayCount-IsCatchingUpSo : (e : Entry) → IsEntryOf l.knows l.process l.number e → MayCount t v.book v.seen p e
  MayCount-IsCatchingUpSo e entry =
      MayCount-IsCatchingUp v.book v counts t.upto t p e so.loading_so.0 so.kept.history so.catching so.loading_so.1
      (subst (λ (k : LoadingTerms). IsEntryOf k.knows k.process k.number e) so.loading_so.3 entry)

  module _ (t' : TotalSums) (counted : HasCounted t' v.book v.seen) (upto : t'.upto ≡ set t.upto p (get_or t.upto p 0 + 1)) where
    -- one more record is counted
    pub IsCatchingUp-counted : IsCatchingUp v.book v.seen counts t'.upto t' p
    IsCatchingUp-counted =
        let more = IsCatchingUp-more v.book v.seen counts t.upto t t' p (get_or t.upto p 0 + 1) so.loading_so.0 so.catching counted upto (omega (arith, so.loading_so.1)) in
        record { counted = more.counted; records = more.records; more = more.more; done = more.done; kept = λ q above. refl }

    pub CountsNext-counted : CountsNext counts t t'
    CountsNext-counted = record { process = p; first = record { left = so.loading_so.1; done = so.catching.done }; upto = upto }
