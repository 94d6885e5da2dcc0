-- What the words of a record that a seat has seen tell of it.
use Rattle.std.proofs.Common.{◌≡◌, ℕ, ◌+◌, ◌-◌, ◌^◌, ◌<◌, ◌≤◌, List, length, get_or, set, take, refl, sym, ap, subst, ◌∙◌, arith, below_more}
use Rattle.at_log.proofs.Prelude.{same_number_lists, get_or-append_right, get_or-set_other, get_or-set_same, BookTerms, IsBegun, count_of-take-le, get_or-publications_of, position_of, get_or-IsCut, length-IsCut, log_room_of-le, publication_at, place, IsHistory, count_of, no_publication, publications_of, HasView, Publication, IsRecordWord, SeesRecord, entry_words, record_words, Knowledge, RECORD_WORDS, IsViewOf}

-- the view of a record of a history
pub record IsShownRecord (b : BookTerms) (x : Publication) : Type 0 where
  pub sized : length x.view ≡ b.processes
  pub small : (q : ℕ) → q < b.processes → get_or x.view q 0 ≤ 12288

IsShownRecord-at : (b : BookTerms) (list : List Publication) (m : ℕ) → IsBegun b → IsHistory b list → m < length list
    → IsShownRecord b (publication_at list m)
IsShownRecord-at b list m begun history within =
    let x : Publication = publication_at list m in
    let view : HasView b (take m list) x = history.views m within in
    record {
      sized = length-IsCut b.processes x.view (take m list) view.cut;
      small = λ q known. omega (
        arith,
        get_or-IsCut b.processes x.view (take m list) q view.cut known,
        count_of-take-le q (place x.view) (take m list),
        count_of-take-le q m list,
        history.room q known,
        log_room_of-le b q begun,
      );
    }

-- record i of a process
pub IsShownRecord-IsHistory : (b : BookTerms) (list : List Publication) (p i : ℕ) → IsBegun b → IsHistory b list → i < count_of p list
    → IsShownRecord b (publication_at (publications_of p list) i)
IsShownRecord-IsHistory b list p i begun history within =
    let at = position_of p i list within in
    let same : publication_at (publications_of p list) i ≡ publication_at list at.0 =
    ap (publication_at (publications_of p list)) (sym at.1.before)
    ∙ get_or-publications_of p at.0 list no_publication at.1.within (at.1.own no_publication) in
    subst (IsShownRecord b) (sym same) (IsShownRecord-at b list at.0 begun history at.1.within)

-- the words behind the entry's are the view's
pub get_or-record_words : (x : Publication) (q : ℕ) → get_or (record_words x) (RECORD_WORDS + q) 0 ≡ get_or x.view q 0
get_or-record_words x q =
    let e : RECORD_WORDS + q - RECORD_WORDS ≡ q = omega arith in
    get_or-append_right (entry_words x.entry) x.view RECORD_WORDS (RECORD_WORDS + q) 0 refl (omega arith) ∙ ap (λ k. get_or x.view k 0) e

-- the first q counts of a view are those of record i of the process
abbrev pub IsLoaded : Knowledge → ℕ → ℕ → List ℕ → ℕ → Type 0
IsLoaded v p i view q = (k : ℕ) → k < q → get_or view k 0 ≡ get_or (publication_at (publications_of p v.seen) i).view k 0

pub IsLoaded-more : (v : Knowledge) (p i : ℕ) (view : List ℕ) (q w : ℕ) → q < length view → IsLoaded v p i view q → IsRecordWord v p i (RECORD_WORDS + q) w
    → IsLoaded v p i (set view q w) (q + 1)
IsLoaded-more v p i view q w inside loaded word =
    let x : Publication = publication_at (publications_of p v.seen) i in
    below_more (λ k. get_or (set view q w) k 0 ≡ get_or x.view k 0) q
    (λ k below. get_or-set_other view q k w 0 (omega arith) ∙ loaded k below)
    (get_or-set_same view q w 0 inside ∙ (word ∙ get_or-record_words x q))

pub IsViewOf-IsLoaded : (b : BookTerms) (v : Knowledge) (p i : ℕ) (view : List ℕ) (q : ℕ) → IsBegun b → IsHistory b v.seen → SeesRecord v p i
    → length view ≡ b.processes → q ≡ b.processes → IsLoaded v p i view q → IsViewOf v p i view
IsViewOf-IsLoaded b v p i view q begun history sees sized all loaded =
    let x : Publication = publication_at (publications_of p v.seen) i in
    let shown = IsShownRecord-IsHistory b v.seen p i begun history sees in
    same_number_lists view x.view (sized ∙ sym shown.sized) (λ k inside. loaded k (omega (arith, inside, sized, all)))

-- a count of a view is small
pub small-IsRecordWord : (b : BookTerms) (v : Knowledge) (p i q w : ℕ) → IsBegun b → IsHistory b v.seen → SeesRecord v p i → q < b.processes
    → IsRecordWord v p i (RECORD_WORDS + q) w → w < 2 ^ 16
small-IsRecordWord b v p i q w begun history sees known word =
    let x : Publication = publication_at (publications_of p v.seen) i in
    let shown = IsShownRecord-IsHistory b v.seen p i begun history sees in
    omega (arith, word, get_or-record_words x q, shown.small q known)
