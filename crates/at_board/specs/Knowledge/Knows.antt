-- That what a seat knows is so on the board.
use Rattle.std.specs.Prelude.{◌≡◌, ℕ, ◌+◌, ◌<◌, List, length, slice_index, All}
use Rattle.at_board.specs.Prelude.{BookTerms, HasSlot, BoardState, decision_at, request_at, IsPrefix, count_of, Sound}
use Rattle.at_board.specs.Knowledge.Parts.{asking_on, part_at, SeesRequest}
use Rattle.at_board.specs.Words.Addresses.{IsAddress, record_width, record_word, request_word, word_at}
use Rattle.at_board.specs.declared.knowledge.Asking.{Asking}
use Rattle.at_board.specs.declared.knowledge.Part.{Part}
use Rattle.at_board.specs.declared.knowledge.SeenDecision.{SeenDecision}
use Rattle.at_board.specs.declared.knowledge.SeenRequest.{SeenRequest}
use Rattle.at_board.specs.declared.knowledge.Knowledge.{Knowledge}
use Rattle.at_board.specs.declared.words.TheConstants.{REQUEST_WORDS}

-- the board has this request, and has decided this
abbrev pub IsAnnounced : BoardState → SeenRequest → Type 0
IsAnnounced s x = (x.number < length (s.rows x.account x.slot)) × (request_at (s.rows x.account x.slot) x.number ≡ x.request)

abbrev pub IsDecided : BoardState → SeenDecision → Type 0
IsDecided s x = (x.round < length (s.cells x.account)) × (decision_at (s.cells x.account) x.round ≡ x.decision)

-- what a process has on an account that it shares: its row, which its seat has seen, the words of its next request, and what it
-- has heard and loaded for its last one
pub record HasAsking (b : BookTerms) (words : List ℕ) (s : BoardState) (v : Knowledge) (a slot : ℕ) (w : Asking) : Type 0 where
  pub announced : w.announced ≡ s.rows a slot
  pub seen : (i : ℕ) → i < length w.announced → SeesRequest v a slot i (request_at w.announced i)
  pub sized : length w.stored ≡ REQUEST_WORDS
  pub stored : (j : ℕ) → IsAddress b (request_word a slot (length w.announced) j) →
      word_at b words (request_word a slot (length w.announced) j) ≡ slice_index w.stored j
  pub heard : w.heard ≡ s.heard a slot
  pub rows : w.rows ≡ s.seen_rows a slot
  pub loaded : All (λ l. IsAnnounced s l.request) w.loaded

-- the part of a process: all that it published, which its seat has seen, the words of its next record, and the cell that it holds
pub record HasPart (b : BookTerms) (words : List ℕ) (s : BoardState) (v : Knowledge) (process : ℕ) (q : Part) : Type 0 where
  pub known : process < b.processes
  pub published : q.published ≡ count_of process s.published
  pub seen : count_of process v.seen ≡ q.published
  pub sized : length q.stored ≡ record_width b
  pub stored : (j : ℕ) → IsAddress b (record_word process q.published j) →
      word_at b words (record_word process q.published j) ≡ slice_index q.stored j
  pub held : q.held ≡ s.held process
  pub lengths : length q.loads ≡ b.processes
  pub accounts : length q.asking ≡ length b.accounts
  pub asking : (a slot : ℕ) → HasSlot b process a slot → HasAsking b words s v a slot (asking_on q a)

-- the list that a seat has seen is a prefix of what was published, its requests were announced and its decisions made, and its
-- parts are its processes'
pub record Knows (b : BookTerms) (words : List ℕ) (s : BoardState) (v : Knowledge) : Type 0 where
  pub seen : IsPrefix v.seen s.published
  pub requests : All (IsAnnounced s) v.requests
  pub decisions : All (IsDecided s) v.decisions
  pub parts : (k : ℕ) → k < length v.parts → HasPart b words s v (v.first + k) (part_at v k)

-- a sound state has published just what the seat has seen, announced its requests and made its decisions. A publishing step tells it, with its
-- record at the end of the list, and an announcing one, with its request at the end of its row
pub record SeesAll (b : BookTerms) (v : Knowledge) : Type 0 where
  pub state : BoardState
  pub sound : Sound b state
  pub published : state.published ≡ v.seen
  pub requests : All (IsAnnounced state) v.requests
  pub decisions : All (IsDecided state) v.decisions
