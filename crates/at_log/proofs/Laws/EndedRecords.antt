-- The words that a closed board has of a record, and the publication that they were made of.
use Rattle.std.proofs.Common.{◌≡◌, ℕ, ◌+◌, ◌^◌, ◌<◌, List, [], ◌∷◌, ◌++◌, length, get_or, map, take, sym, ap, ◌∙◌, arith}
use Rattle.at_log.proofs.Prelude.{same_number_lists, get_or-map, length-map, map-append, take_all, take_more, IsBook, get_or-publications_of, position_of, publication_at, count_of, no_publication, publications_of, Entry, Publication, EndTerms, IsEnd, records_of, SeatTerms, record_words, RECORD_WORDS, published_by, IsEndedEntry, IsEndedView, Record}
use Rattle.at_log.proofs.Laws.SeenRecords.{IsShownRecord, IsShownRecord-IsHistory, get_or-record_words}

-- a word of a record of a closed board
abbrev pub ended_word : EndTerms → ℕ → ℕ → ℕ → ℕ
ended_word e p i j = get_or (get_or (records_of e p) i []) j 0

-- a closed board has as many records of a process as it has published
pub length-records_of : (e : EndTerms) (seats : List SeatTerms) (p : ℕ) (ended : IsEnd e seats) → p < e.book.processes
    → length (records_of e p) ≡ count_of p ended.state.published
length-records_of e seats p ended known =
    ap length (ended.records p known) ∙ length-map (publications_of p ended.state.published) record_words

-- each by its words
pub get_or-records_of : (e : EndTerms) (seats : List SeatTerms) (p i : ℕ) (ended : IsEnd e seats) → p < e.book.processes → i < length (records_of e p)
    → get_or (records_of e p) i [] ≡ record_words (publication_at (publications_of p ended.state.published) i)
get_or-records_of e seats p i ended known within =
    let list : List Publication = publications_of p ended.state.published in
    ap (λ rs. get_or rs i []) (ended.records p known)
    ∙ get_or-map record_words list i no_publication [] (omega (arith, within, length-records_of e seats p ended known))

-- the view of a record
IsShownRecord-IsEnd : (e : EndTerms) (seats : List SeatTerms) (p i : ℕ) (ended : IsEnd e seats) → IsBook e.book → p < e.book.processes
    → i < length (records_of e p) → IsShownRecord e.book (publication_at (publications_of p ended.state.published) i)
IsShownRecord-IsEnd e seats p i ended book known within =
    IsShownRecord-IsHistory e.book ended.state.published p i book.begun ended.history (omega (arith, within, length-records_of e seats p ended known))

-- its counts stand behind the entry's words
ended_word-view : (e : EndTerms) (seats : List SeatTerms) (p i q : ℕ) (ended : IsEnd e seats) → p < e.book.processes → i < length (records_of e p)
    → ended_word e p i (RECORD_WORDS + q) ≡ get_or (publication_at (publications_of p ended.state.published) i).view q 0
ended_word-view e seats p i q ended known within =
    ap (λ ws. get_or ws (RECORD_WORDS + q) 0) (get_or-records_of e seats p i ended known within)
    ∙ get_or-record_words (publication_at (publications_of p ended.state.published) i) q

-- a count of a view is small
pub small-ended_word : (e : EndTerms) (p i q : ℕ) → ((seats : List SeatTerms) × IsEnd e seats) → IsBook e.book → p < e.book.processes
    → i < length (records_of e p) → q < e.book.processes → ended_word e p i (RECORD_WORDS + q) < 2 ^ 16
small-ended_word e p i q end book known within inside =
    omega (
      arith,
      ended_word-view e end.0 p i q end.1 known within,
      (IsShownRecord-IsEnd e end.0 p i end.1 book known within).small q inside,
    )

-- the first q counts of a view are those of record i of the process
abbrev pub IsCounted : EndTerms → ℕ → ℕ → List ℕ → ℕ → Type 0
IsCounted e p i view q = (k : ℕ) → k < q → get_or view k 0 ≡ ended_word e p i (RECORD_WORDS + k)

pub IsEndedView-IsCounted : (e : EndTerms) (p i : ℕ) (view : List ℕ) (q : ℕ) → IsBook e.book → p < e.book.processes → i < length (records_of e p)
    → length view ≡ e.book.processes → q ≡ e.book.processes → IsCounted e p i view q → IsEndedView e p i view
IsEndedView-IsCounted e p i view q book known within sized all counted =
    λ seats ended.
    let x : Publication = publication_at (publications_of p ended.state.published) i in
    same_number_lists view x.view (sized ∙ sym (IsShownRecord-IsEnd e seats p i ended book known within).sized)
    (λ k inside. counted k (omega (arith, inside, sized, all)) ∙ ended_word-view e seats p i k ended known within)

-- the log has the first i records of the process
abbrev pub AreFirstRecords : EndTerms → ℕ → List Record → ℕ → Type 0
AreFirstRecords e p log i = (seats : List SeatTerms) (ended : IsEnd e seats) → map (published_by p) log ≡ take i (publications_of p ended.state.published)

-- each is the process's own
process-publications_of : (p i : ℕ) (list : List Publication) → i < count_of p list → (publication_at (publications_of p list) i).process ≡ p
process-publications_of p i list within =
    let at = position_of p i list within in
    let same : publication_at (publications_of p list) i ≡ publication_at list at.0 =
    ap (publication_at (publications_of p list)) (sym at.1.before)
    ∙ get_or-publications_of p at.0 list no_publication at.1.within (at.1.own no_publication) in
    ap (λ (x : Publication). x.process) same ∙ at.1.own no_publication

published_by-publications_of : (p i : ℕ) (list : List Publication) (entry : Entry) (view : List ℕ) → i < count_of p list
    → entry ≡ (publication_at (publications_of p list) i).entry → view ≡ (publication_at (publications_of p list) i).view
    → published_by p (record { entry = entry; view = view }) ≡ publication_at (publications_of p list) i
published_by-publications_of p i list entry view within of_entry of_view =
    let x : Publication = publication_at (publications_of p list) i in
    let by_process : ℕ → Publication = λ n. record { process = n; view = view; entry = entry } in
    let by_view : List ℕ → Publication = λ v. record { process = x.process; view = v; entry = entry } in
    let by_entry : Entry → Publication = λ t. record { process = x.process; view = x.view; entry = t } in
    ap by_process (sym (process-publications_of p i list within)) ∙ (ap by_view of_view ∙ ap by_entry of_entry)

pub AreFirstRecords-more : (e : EndTerms) (p i : ℕ) (log : List Record) (x : Record) → p < e.book.processes → i < length (records_of e p)
    → AreFirstRecords e p log i → IsEndedEntry e p i x.entry → IsEndedView e p i x.view → AreFirstRecords e p (log ++ x ∷ []) (i + 1)
AreFirstRecords-more e p i log x known within first entry view =
    λ seats ended.
    let list : List Publication = publications_of p ended.state.published in
    let inside : i < length list = omega (arith, within, length-records_of e seats p ended known) in
    map-append (published_by p) log (x ∷ [])
    ∙ (ap (λ ys. ys ++ published_by p x ∷ []) (first seats ended)
    ∙ (ap (λ y. take i list ++ y ∷ []) (published_by-publications_of p i ended.state.published x.entry x.view inside (entry seats ended) (view seats ended))
    ∙ sym (take_more list i no_publication inside)))

pub AreFirstRecords-all : (e : EndTerms) (p i : ℕ) (log : List Record) → p < e.book.processes → i ≡ length (records_of e p) → AreFirstRecords e p log i
    → (seats : List SeatTerms) (ended : IsEnd e seats) → map (published_by p) log ≡ publications_of p ended.state.published
AreFirstRecords-all e p i log known all first =
    λ seats ended.
    let list : List Publication = publications_of p ended.state.published in
    first seats ended ∙ take_all i list (omega (arith, all, length-records_of e seats p ended known))
