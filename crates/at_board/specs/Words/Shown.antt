-- The words of a board that has a state.
use Rattle.std.specs.Prelude.{◌≡◌, ℕ, ◌<◌, ◌≤◌, List, length, slice_index}
use Rattle.at_board.specs.Prelude.{BookTerms, log_room_of, BoardState, publication_at, request_at, count_of, publications_of}
use Rattle.at_board.specs.Words.Addresses.{IsAddress, announced_of, cell_of, length_of, record_word, request_word, word_at, word_count}
use Rattle.at_board.specs.Words.Packed.{cell_word, record_words, request_words}

-- the length of a process is the number of its publications, and its records are these; what no seat has stored is 0
pub record ShowsRecords (b : BookTerms) (words : List ℕ) (s : BoardState) : Type 0 where
  pub lengths : (p : ℕ) → p < b.processes → word_at b words (length_of p) ≡ count_of p s.published
  pub room : (p : ℕ) → p < b.processes → count_of p s.published ≤ log_room_of b p
  pub records : (p i j : ℕ) → IsAddress b (record_word p i j) → i < count_of p s.published →
      word_at b words (record_word p i j) ≡ slice_index (record_words (publication_at (publications_of p s.published) i)) j
  pub blank : (p i j : ℕ) → IsAddress b (record_word p i j) → count_of p s.published < i → word_at b words (record_word p i j) ≡ 0

-- the announced word of a slot is the length of its row, and its requests are the row's; what no seat has stored is 0
pub record ShowsRequests (b : BookTerms) (words : List ℕ) (s : BoardState) : Type 0 where
  pub lengths : (a slot : ℕ) → IsAddress b (announced_of a slot) → word_at b words (announced_of a slot) ≡ length (s.rows a slot)
  pub requests : (a slot i j : ℕ) → IsAddress b (request_word a slot i j) → i < length (s.rows a slot) →
      word_at b words (request_word a slot i j) ≡ slice_index (request_words (request_at (s.rows a slot) i)) j
  pub blank : (a slot i j : ℕ) → IsAddress b (request_word a slot i j) → length (s.rows a slot) < i →
      word_at b words (request_word a slot i j) ≡ 0

-- the words stand for the state
pub record Shown (b : BookTerms) (words : List ℕ) (s : BoardState) : Type 0 where
  pub sized : length words ≡ word_count b
  pub records : ShowsRecords b words s
  pub requests : ShowsRequests b words s
  pub cells : (a r : ℕ) → IsAddress b (cell_of a r) → word_at b words (cell_of a r) ≡ cell_word (s.cells a) r
