-- An exchange on the cell of a round.
use Rattle.std.specs.Prelude.{◌≡◌, ℕ, ◌+◌, ◌<◌, ◌≤◌, ◌==◌, ◌++◌, List, [], ◌∷◌, length, take, slice_set, All, Option, Some, None, if◌then◌else◌, ◌↔◌, true, false}
use Rattle.at_board.specs.Prelude.{InRange, word_of, Decision, Me, Step, slots_of, BookTerms, account_of, amount_of, IsCovered, BoardState, decision_at, IsHistory, IsLastRequest, IsPrefix, count_of, rounds, named, is_settled, Sound, Cell, Publication, Request}
use Rattle.at_board.specs.Knowledge.Agreement.{AgreesWithSeen}
use Rattle.at_board.specs.Knowledge.Candidates.{HasLoadedRows, IsOldest}
use Rattle.at_board.specs.Knowledge.Knows.{IsAnnounced, IsDecided}
use Rattle.at_board.specs.Knowledge.Parts.{with_part, SeesDecision, asking_on, own_part, SeesRequest}
use Rattle.at_board.specs.Knowledge.Seats.{IsKept}
use Rattle.at_board.specs.Words.Addresses.{cell_of, index_of}
use Rattle.at_board.specs.declared.knowledge.Part.{Part}
use Rattle.at_board.specs.declared.knowledge.Knowledge.{Knowledge}

-- what a cell has after an exchange from 0 for a proposal, where it had this before
abbrev pub word_after : ℕ → ℕ → ℕ
word_after found proposal = if found == 0 then proposal else found

-- one more step on a cell of the account is counted
abbrev pub with_count : Part → ℕ → Part
with_count q a = record q { asking = slice_set q.asking a (record (asking_on q a) { decides = (asking_on q a).decides + 1 }) }

-- and this cell is held, or none
abbrev pub with_decide : Part → ℕ → Option Cell → Part
with_decide q a held = with_count (record q { held = held }) a

-- the decision of a round is seen, with all of a list
abbrev pub with_decision : Knowledge → List Publication → ℕ → ℕ → Decision → Knowledge
with_decision v list a round d =
    record v { seen = list; decisions = v.decisions ++ record { account = a; round = round; decision = d } ∷ [] }

-- the board that an exchange on the cell of a round has met: sound, with just the publications that the seat has then seen, and
-- all the requests and decisions that it had seen before. Where the round was undecided there, it is decided as proposed, and
-- the seat holds the cell; a decision that stood there stays, and the seat holds none
pub record MeetsCell (b : BookTerms) (before after : Knowledge) (a round : ℕ) (d decision : Decision) (held : Option Cell) : Type 0 where
  pub state : BoardState
  pub sound : Sound b state
  pub published : state.published ≡ after.seen
  pub requests : All (IsAnnounced state) before.requests
  pub decisions : All (IsDecided state) before.decisions
  pub within : round ≤ length (state.cells a)
  pub undecided : length (state.cells a) ≡ round → (decision ≡ d) × (held ≡ Some (record { account = a; round = round }))
  pub stood : round < length (state.cells a) → (decision ≡ decision_at (state.cells a) round) × (held ≡ None)

-- an exchange on the cell of a round, which then has this word. It is the word of a decision: of the proposal where the round
-- was undecided, and else of the one that stood. The seat has seen at least as many publications as the decision's place,
-- where exactly the rounds before this one stand, and the request that it names is the next of its slot
pub record Decides (b : BookTerms) (before after : Knowledge) (a round : ℕ) (d : Decision) (w : ℕ) : Type 0 where
  pub decision : Decision
  pub held : Option Cell
  pub word : w ≡ word_of decision
  pub range : InRange decision
  pub slot_in : decision.slot < slots_of (account_of b a)
  pub number_in : decision.number < b.request_room
  pub place : decision.place ≤ length after.seen
  pub next : rounds a (take decision.place after.seen) ≡ round
  pub number : named a decision.slot (take decision.place after.seen) ≡ decision.number
  pub known : (e : Decision) → SeesDecision before a round e → e ≡ decision
  pub met : MeetsCell b before after a round d decision held
  pub more : IsPrefix before.seen after.seen
  pub own : count_of before.first after.seen ≡ (own_part before).published
  pub history : IsHistory b after.seen
  pub agrees : AgreesWithSeen after
  pub same : after ≡ with_part (with_decision before after.seen a round decision) (with_decide (own_part before) a held)

-- the process's own last request on the account is unsettled in the list, and since it announced that it has loaded those of the
-- others
pub record HasUnsettledRequest (b : BookTerms) (v : Knowledge) (a slot : ℕ) (list : List Publication) : Type 0 where
  pub loaded : HasLoadedRows b v a slot
  pub number : ℕ
  pub last : IsLastRequest (asking_on (own_part v) a).announced number
  pub unsettled : is_settled a slot number list ≡ false

-- the seat may propose that this round decide this request, and the decision has a word. Its place is within what was seen, and
-- exactly the rounds before this one stand there. The request was seen, and its since is no later than that place; the proposal
-- says whether the balance there covers it, and the seat holds no cell. The process's own last request is unsettled there, and of
-- that one and the requests loaded since then the one proposed comes first among those unsettled there
pub record MayPropose (b : BookTerms) (v : Knowledge) (a round : ℕ) (d : Decision) (r : Request) : Type 0 where
  pub range : InRange d
  pub place : d.place ≤ length v.seen
  pub next : rounds a (take d.place v.seen) ≡ round
  pub named : SeesRequest v a d.slot d.number r
  pub since : r.since ≤ d.place
  pub ok : (d.ok ≡ true) ↔ IsCovered b (take d.place v.seen) a (amount_of r.targets)
  pub free : (own_part v).held ≡ None
  pub own : ℕ
  pub asking : HasUnsettledRequest b v a own (take d.place v.seen)
  pub oldest : IsOldest (asking_on (own_part v) a) own (take d.place v.seen) a d.slot d.number r

-- the word is that of a decision that the seat may propose
abbrev pub IsProposal : BookTerms → Knowledge → ℕ → ℕ → ℕ → Type 0
IsProposal b v a round word = (d : Decision) × (r : Request) × MayPropose b v a round d r × (word ≡ word_of d)

-- the round is decided, whichever decision the proposal is the word of
abbrev pub DecidesBy : BookTerms → Knowledge → Knowledge → ℕ → ℕ → ℕ → ℕ → Type 0
DecidesBy b before after a round proposal word =
    (d : Decision) (r : Request) → MayPropose b before a round d r → proposal ≡ word_of d → Decides b before after a round d word

-- what the exchange tells its seat
module _ {S : Type 0} where
  abbrev pub decided_round : Step S → Me S Knowledge → ℕ → Me S Knowledge → Type 0
  decided_round st m n m' = (m'.1 ≡ m.1) × IsKept m'.0 × ((a round : ℕ) (d : Decision) (r : Request) → MayPropose m.0.book m.0 a round d r →
      st.word ≡ index_of m.0.book (cell_of a round) → st.second ≡ word_of d → Decides m.0.book m.0 m'.0 a round d (word_after n st.second))
