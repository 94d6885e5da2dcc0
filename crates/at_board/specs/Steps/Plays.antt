-- What each load and store on the table tells its seat (the exchange stands in `Decide`). The arguments are the step, the
-- seat before it, the number loaded or stored, and the seat after it. The seat has no other word of the table than before, and
-- what its type keeps is so.
use Rattle.std.specs.Prelude.{◌≡◌, ℕ, ◌<◌, length}
use Rattle.at_board.specs.Prelude.{Me, Step, log_room_of, Publication, Request}
use Rattle.at_board.specs.Knowledge.Parts.{asking_on, own_part}
use Rattle.at_board.specs.Knowledge.Records.{IsRecordWord, SeesRecord}
use Rattle.at_board.specs.Knowledge.Seats.{IsKept}
use Rattle.at_board.specs.Steps.Announce.{MayAnnounce, Announces}
use Rattle.at_board.specs.Steps.LoadAnnounced.{LoadsAnnounced}
use Rattle.at_board.specs.Steps.LoadLength.{LoadsLength}
use Rattle.at_board.specs.Steps.LoadRequestWord.{MayLoadRequest, LoadsRequestWord}
use Rattle.at_board.specs.Steps.Publish.{MayPublish, Publishes}
use Rattle.at_board.specs.Steps.StoreRecordWord.{StoresWord}
use Rattle.at_board.specs.Steps.StoreRequestWord.{MayStoreRequest, StoresRequestWord}
use Rattle.at_board.specs.Words.Addresses.{IsAddress, announced_of, length_of, index_of, record_width, record_word, request_word}
use Rattle.at_board.specs.declared.knowledge.Knowledge.{Knowledge}
use Rattle.at_board.specs.declared.words.TheConstants.{REQUEST_WORDS}

module _ {S : Type 0} where
  -- at a length
  abbrev pub loaded_length : Step S → Me S Knowledge → ℕ → Me S Knowledge → Type 0
  loaded_length st m n m' = (m'.1 ≡ m.1) × IsKept m'.0 × ((p : ℕ) → p < m.0.book.processes → st.word ≡ index_of m.0.book (length_of p) →
      LoadsLength m.0.book m.0 m'.0 p n)

  -- at a word of a record that was seen
  abbrev pub loaded_word : Step S → Me S Knowledge → ℕ → Me S Knowledge → Type 0
  loaded_word st m n m' = (m' ≡ m) × ((p i j : ℕ) → p < m.0.book.processes → j < record_width m.0.book →
      SeesRecord m.0 p i → st.word ≡ index_of m.0.book (record_word p i j) → IsRecordWord m.0 p i j n)

  -- at a word of the seat's next record
  abbrev pub stored_word : Step S → Me S Knowledge → ℕ → Me S Knowledge → Type 0
  stored_word st m n m' = (m'.1 ≡ m.1) × IsKept m'.0 × ((j : ℕ) → j < record_width m.0.book → (own_part m.0).published < log_room_of m.0.book m.0.first →
      st.word ≡ index_of m.0.book (record_word m.0.first (own_part m.0).published j) → StoresWord m.0 m'.0 j n)

  -- at the seat's own length
  abbrev pub published_record : Step S → Me S Knowledge → ℕ → Me S Knowledge → Type 0
  published_record st m n m' = (m'.1 ≡ m.1) × IsKept m'.0 × ((x : Publication) → MayPublish m.0.book m.0 x → Publishes m.0.book m.0 m'.0 x)

  -- at an announced word
  abbrev pub loaded_announced : Step S → Me S Knowledge → ℕ → Me S Knowledge → Type 0
  loaded_announced st m n m' = (m'.1 ≡ m.1) × IsKept m'.0 × ((a slot : ℕ) → IsAddress m.0.book (announced_of a slot) →
      st.word ≡ index_of m.0.book (announced_of a slot) → LoadsAnnounced m.0.book m.0 m'.0 a slot n)

  -- at a word of an announced request
  abbrev pub loaded_request_word : Step S → Me S Knowledge → ℕ → Me S Knowledge → Type 0
  loaded_request_word st m n m' = (m'.1 ≡ m.1) × IsKept m'.0 × ((a slot number j : ℕ) → IsAddress m.0.book (request_word a slot number j) →
      MayLoadRequest m.0 a slot number j → st.word ≡ index_of m.0.book (request_word a slot number j) →
      LoadsRequestWord m.0.book m.0 m'.0 a slot number j n)

  -- at a word of the next request on an account
  abbrev pub stored_request_word : Step S → Me S Knowledge → ℕ → Me S Knowledge → Type 0
  stored_request_word st m n m' = (m'.1 ≡ m.1) × IsKept m'.0 × ((a slot j : ℕ) → MayStoreRequest m.0.book m.0 a slot → j < REQUEST_WORDS →
      st.word ≡ index_of m.0.book (request_word a slot (length (asking_on (own_part m.0) a).announced) j) → StoresRequestWord m.0 m'.0 a j n)

  -- at the seat's own announced word on an account
  abbrev pub announced_request : Step S → Me S Knowledge → ℕ → Me S Knowledge → Type 0
  announced_request st m n m' = (m'.1 ≡ m.1) × IsKept m'.0 × ((a slot : ℕ) (r : Request) → MayAnnounce m.0.book m.0 a slot r →
      st.word ≡ index_of m.0.book (announced_of a slot) → Announces m.0.book m.0 m'.0 a slot r)
