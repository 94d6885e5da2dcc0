-- The words of the records that a seat has seen.
use Rattle.std.proofs.Common.{ℕ, ◌<◌, List, get_or, ap, ◌∙◌, arith}
use Rattle.at_board.proofs.Prelude.{BookTerms, process-IsHistory, IsPrefix-count_of, publications_of-IsPrefix, BoardState, count_of, Publication, Knows, IsRecordWord, IsKept, MayLoadWord, IsAddress, record_width, record_word, word_at, record_words, Shown, Knowledge}

-- the board has the word
pub IsAddress-MayLoadWord : (v : Knowledge) (p i j : ℕ) → IsKept v → MayLoadWord v.book v p i j → IsAddress v.book (record_word p i j)
IsAddress-MayLoadWord v p i j kept may =
    let known = process-IsHistory v.book v.seen p i kept.history may.seen in
    (known, omega (arith, may.seen, kept.history.room p known), may.word)

pub IsRecordWord-Shown : (b : BookTerms) (words : List ℕ) (s : BoardState) (v : Knowledge) (p i j : ℕ) → Shown b words s → Knows b words s v
    → p < b.processes → j < record_width b → i < count_of p v.seen → IsRecordWord v p i j (word_at b words (record_word p i j))
IsRecordWord-Shown b words s v p i j shown knows known inside within =
    let counted : i < count_of p s.published = omega (arith, within, IsPrefix-count_of p v.seen s.published knows.seen) in
    shown.records.records p i j (known, omega (arith, counted, shown.records.room p known), inside) counted
    ∙ ap (λ (x : Publication). get_or (record_words x) j 0) (publications_of-IsPrefix p i v.seen s.published knows.seen within)
