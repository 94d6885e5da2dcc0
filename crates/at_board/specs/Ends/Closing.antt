-- The end of a board.
use Rattle.std.specs.Prelude.{◌≡◌, ℕ, ◌<◌, ◌≤◌, ◌++◌, List, [], length, map, slice_index_or, All, Contains, None}
use Rattle.at_board.specs.Prelude.{range_with_len, BookTerms, IsBook, log_room_of, HasSlot, BoardState, publication_at, IsHistory, IsPrefix, count_of, publications_of, Sound}
use Rattle.at_board.specs.Knowledge.Knows.{IsAnnounced, IsDecided}
use Rattle.at_board.specs.Knowledge.Parts.{asking_on, own_part, part_at}
use Rattle.at_board.specs.Knowledge.Seats.{BoardTerms, IsOf, SeatTerms}
use Rattle.at_board.specs.Steps.Learn.{learned}
use Rattle.at_board.specs.Words.Addresses.{length_of, record_width, record_word, word_at, word_count}
use Rattle.at_board.specs.Words.Packed.{IsForm, record_words}
use Rattle.at_board.specs.declared.knowledge.Knowledge.{Knowledge}

-- the records that the words of a board have of a process, each by its words
abbrev pub records_in : BookTerms → List ℕ → ℕ → List (List ℕ)
records_in b words p =
    map (λ i. map (λ j. word_at b words (record_word p i j)) (range_with_len 0 (record_width b))) (range_with_len 0 (word_at b words (length_of p)))

-- a closed board by its book and the records of all processes, each by its words
pub record EndTerms : Type 0 where
  pub book : BookTerms
  pub records : List (List (List ℕ))

abbrev pub end_of : BookTerms → List ℕ → EndTerms
end_of b words = record { book = b; records = map (records_in b words) (range_with_len 0 b.processes) }

-- the records of a process
abbrev pub records_of : EndTerms → ℕ → List (List ℕ)
records_of e p = slice_index_or e.records p []

-- the seat is that of a process of the board, which holds no cell
pub record IsFreeSeat (board : BoardTerms) (p : ℕ) (seat : SeatTerms) : Type 0 where
  pub of_board : IsOf seat board
  pub process : seat.knows.first ≡ p
  pub free : (own_part seat.knows).held ≡ None

-- all seats of the board in order, of which none holds a cell
pub record AreAllFree (board : BoardTerms) (seats : List SeatTerms) : Type 0 where
  pub count : length seats ≡ board.book.processes
  pub each : (p : ℕ) (d : SeatTerms) → p < board.book.processes → IsFreeSeat board p (slice_index_or seats p d)

-- what two seats know, in one, of which the second stands for the processes after those of the first
abbrev pub gathered : Knowledge → Knowledge → Knowledge
gathered v w = record (learned v w) { parts = v.parts ++ w.parts }

-- the knowledge has the own parts of the first seats in order, which hold no cell, and all that they have seen
pub record Gathers (seats : List SeatTerms) (v : Knowledge) : Type 0 where
  pub first : v.first ≡ 0
  pub parts : length v.parts ≡ length seats
  pub own : (k : ℕ) (d : SeatTerms) → k < length seats → part_at v k ≡ own_part (slice_index_or seats k d).knows
  pub free : (k : ℕ) → k < length v.parts → (part_at v k).held ≡ None
  pub seen : All (λ seat. IsPrefix seat.knows.seen v.seen) seats
  pub requests : All (λ seat. All (Contains v.requests) seat.knows.requests) seats
  pub decisions : All (λ seat. All (Contains v.decisions) seat.knows.decisions) seats

-- the last state of a board: the records are its publications, of which each prefix is a run, it is sound, and no process holds
-- a cell. The list that each seat had seen is a prefix of what was published, its requests were announced and its decisions
-- made. The numbers of each record fit its words. Each process published as many records as its seat's part says, and its row on each account that it shares has the
-- requests that this part announced
pub record IsEnd (e : EndTerms) (seats : List SeatTerms) : Type 0 where
  pub state : BoardState
  pub records : (p : ℕ) → p < e.book.processes → records_of e p ≡ map record_words (publications_of p state.published)
  pub sound : Sound e.book state
  pub free : (p : ℕ) → p < e.book.processes → state.held p ≡ None
  pub seen : All (λ seat. IsPrefix seat.knows.seen state.published) seats
  pub requests : All (λ seat. All (IsAnnounced state) seat.knows.requests) seats
  pub decisions : All (λ seat. All (IsDecided state) seat.knows.decisions) seats
  pub counted : (p : ℕ) (d : SeatTerms) → p < e.book.processes →
      count_of p state.published ≡ (own_part (slice_index_or seats p d).knows).published
  pub announced : (p : ℕ) (d : SeatTerms) (a slot : ℕ) → p < e.book.processes → HasSlot e.book p a slot →
      state.rows a slot ≡ (asking_on (own_part (slice_index_or seats p d).knows) a).announced
  pub history : IsHistory e.book state.published
  pub forms : (p i : ℕ) → i < count_of p state.published → IsForm (publication_at (publications_of p state.published) i).entry

-- the words are those of a board for the book, and no log is longer than its room
pub record HasWords (b : BookTerms) (words : List ℕ) : Type 0 where
  pub book : IsBook b
  pub sized : length words ≡ word_count b
  pub room : (p : ℕ) → p < b.processes → word_at b words (length_of p) ≤ log_room_of b p
