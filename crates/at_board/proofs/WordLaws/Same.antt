-- Words that a step leaves as they are.
use Rattle.std.proofs.Common.{◌≡◌, ℕ, List}
use Rattle.at_board.proofs.Prelude.{BookTerms, IsAddress, record_word, request_word, word_at}

-- the words of all requests are the same
abbrev pub SameRequestWords : BookTerms → List ℕ → List ℕ → Type 0
SameRequestWords b words after = (a slot i j : ℕ) → IsAddress b (request_word a slot i j) →
    word_at b after (request_word a slot i j) ≡ word_at b words (request_word a slot i j)

-- the words of a record are the same
abbrev pub SameRecordWords : BookTerms → List ℕ → List ℕ → ℕ → ℕ → Type 0
SameRecordWords b words after p i = (j : ℕ) → IsAddress b (record_word p i j) →
    word_at b after (record_word p i j) ≡ word_at b words (record_word p i j)
