-- The words of a record that are loaded one after another.
use Rattle.std.proofs.Common.{◌≡◌, ℕ, ◌+◌, ◌++◌, ◌<◌, List, [], ◌∷◌, length, get_or, set, map, refl, sym, ap, subst, ◌∙◌, arith, below_more, zero-add}
use Rattle.at_machines.proofs.Prelude.{range_with_len, same_number_lists, length-append, get_or-set_other, get_or-set_same, get_or_append_left, get_or-map-range_with_len, map-range_with_len_more, publication_at, publications_of, Publication, IsRecordWord, RecordWordTerms, SeesRecord, seen_word, IsKept, entry_words, Knowledge, RECORD_WORDS, IsViewOf-IsLoaded, get_or-record_words, IsViewOf, IsLoadingSo, LoadingTerms, loading_with}

-- one more word is loaded
pub IsLoadingSo-more : (v : Knowledge) (p i first : ℕ) (words more : List RecordWordTerms) → IsLoadingSo (loading_with v p i words) first
    → more ≡ words ++ seen_word v p i (first + length words) ∷ [] → IsLoadingSo (loading_with v p i more) first
IsLoadingSo-more v p i first words more so is =
    let n : ℕ = length words in
    let w : RecordWordTerms = seen_word v p i (first + n) in
    let sized : length more ≡ n + 1 = ap (λ ws. length ws) is ∙ length-append words (w ∷ []) in
    record {
      record_seen = so.record_seen;
      words_are = is ∙ (ap (λ ws. ws ++ w ∷ []) so.words_are
          ∙ (sym (map-range_with_len_more (seen_word v p i) first n (first + n) refl) ∙ ap (λ k. map (seen_word v p i) (range_with_len first k)) (sym sized)));
    }

-- what stands at place k of the words that are loaded is that word of the record
pub IsRecordWord-IsLoadingSo : (l : LoadingTerms) (first k : ℕ) (w : RecordWordTerms) → k < l.loaded → IsLoadingSo l first → w ≡ get_or l.words k w
    → IsRecordWord l.knows l.process l.number (first + k) w.value
IsRecordWord-IsLoadingSo l first k w below so is =
    ap (λ (t : RecordWordTerms). t.value)
    (is ∙ (ap (λ ws. get_or ws k w) so.words_are
    ∙ get_or-map-range_with_len (seen_word l.knows l.process l.number) first l.loaded k (first + k) w below refl))

-- the first n numbers are words of the record, from this one on
abbrev pub AreRecordWords : Knowledge → ℕ → ℕ → ℕ → List ℕ → ℕ → Type 0
AreRecordWords v p i first values n = (k : ℕ) → k < n → IsRecordWord v p i (first + k) (get_or values k 0)

pub AreRecordWords-more : (v : Knowledge) (p i first : ℕ) (values : List ℕ) (n w : ℕ) → n < length values → AreRecordWords v p i first values n
    → IsRecordWord v p i (first + n) w → AreRecordWords v p i first (set values n w) (n + 1)
AreRecordWords-more v p i first values n w inside are word =
    below_more (λ k. IsRecordWord v p i (first + k) (get_or (set values n w) k 0)) n
    (λ k below. subst (IsRecordWord v p i (first + k)) (sym (get_or-set_other values n k w 0 (omega arith))) (are k below))
    (subst (IsRecordWord v p i (first + n)) (sym (get_or-set_same values n w 0 inside)) word)

-- they are all words of its entry
pub entry_words-AreRecordWords : (v : Knowledge) (p i : ℕ) (values : List ℕ) (n : ℕ) → length values ≡ RECORD_WORDS → n ≡ RECORD_WORDS
    → AreRecordWords v p i 0 values n → values ≡ entry_words (publication_at (publications_of p v.seen) i).entry
entry_words-AreRecordWords v p i values n sized all are =
    let x : Publication = publication_at (publications_of p v.seen) i in
    same_number_lists values (entry_words x.entry) sized (λ k within.
    subst (λ j. IsRecordWord v p i j (get_or values k 0)) (zero-add k) (are k (omega (arith, within, sized, all)))
    ∙ get_or_append_left (entry_words x.entry) x.view 0 k (omega (arith, within, sized)))

-- they are all words of its view
pub IsViewOf-AreRecordWords : (v : Knowledge) (p i : ℕ) (view : List ℕ) (n : ℕ) → IsKept v → SeesRecord v p i → length view ≡ v.book.processes
    → n ≡ v.book.processes → AreRecordWords v p i RECORD_WORDS view n → IsViewOf v p i view
IsViewOf-AreRecordWords v p i view n kept seen sized all are =
    let x : Publication = publication_at (publications_of p v.seen) i in
    IsViewOf-IsLoaded v.book v p i view n kept.book.begun kept.history seen sized all (λ k below. are k below ∙ get_or-record_words x k)
