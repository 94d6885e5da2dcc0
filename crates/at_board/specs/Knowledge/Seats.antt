-- Seats and boards as callers see them, and what the type of a seat keeps.
use Rattle.std.specs.Prelude.{◌≡◌, ℕ, ◌+◌, ◌<◌, ◌≤◌, true, false, List, length, slice_index, take}
use Rattle.at_board.specs.Prelude.{TableId, Decision, slots_of, BookTerms, IsBook, HasSlot, account_of, request_at, IsHistory, IsLastRequest, count_of, is_settled, named, rounds}
use Rattle.at_board.specs.Knowledge.Agreement.{AgreesWithSeen, SeesInRange}
use Rattle.at_board.specs.Knowledge.Parts.{asking_on, own_part, SeesDecision, SeesRequest}
use Rattle.at_board.specs.Words.Addresses.{record_width}
use Rattle.at_board.specs.declared.knowledge.Knowledge.{Knowledge}
use Rattle.at_board.specs.declared.words.TheConstants.{REQUEST_WORDS}

-- the counts are those of the requests that the seat's process has announced on each account
pub record HasCounts (v : Knowledge) (announced : List ℕ) : Type 0 where
  pub sized : length announced ≡ length v.book.accounts
  pub counted : (a : ℕ) → a < length v.book.accounts → slice_index announced a ≡ length (asking_on (own_part v) a).announced

-- a board by its identity and its book
pub record BoardTerms : Type 0 where
  pub id : TableId
  pub book : BookTerms

-- a seat by the identity of its board, what it knows, and how many steps it has made, how many of them exchanges. The same of a note, which
-- has made no step
pub record SeatTerms : Type 0 where
  pub board : TableId
  pub knows : Knowledge
  pub steps : ℕ
  pub exchanges : ℕ

-- the seat has seen each request that its process has announced, by its number
abbrev pub SeesOwnRequests : Knowledge → Type 0
SeesOwnRequests v = (a slot i : ℕ) → HasSlot v.book v.first a slot → i < length (asking_on (own_part v) a).announced →
    SeesRequest v a slot i (request_at (asking_on (own_part v) a).announced i)

-- while the process's last request on an account that it shares is unsettled in a prefix of what is seen, fewer rounds of the
-- account stand there than were heard when it was announced and the account has owners: each other owner is decided at most once
-- before it
abbrev pub FewOvertake : Knowledge → Type 0
FewOvertake v = (a slot number m : ℕ) → HasSlot v.book v.first a slot → IsLastRequest (asking_on (own_part v) a).announced number →
    m ≤ length v.seen → is_settled a slot number (take m v.seen) ≡ false →
    rounds a (take m v.seen) + 1 ≤ (asking_on (own_part v) a).heard + slots_of (account_of v.book a)

-- of a slot, the records and decisions seen name only numbers below this one, and at most so many rounds seen name the slot
pub record NamesOnlyAnnounced (v : Knowledge) (a slot announced : ℕ) : Type 0 where
  pub records : (number : ℕ) → is_settled a slot number v.seen ≡ true → number < announced
  pub decisions : (round : ℕ) (d : Decision) → SeesDecision v a round d → d.slot ≡ slot → d.number < announced
  pub rounds : named a slot v.seen ≤ announced

-- a seat has one part, its process's, with something on each account and each word of the next record, and of the next request
-- of each account that it shares. It has seen all records and requests of that process. Its list is a history, its requests and
-- decisions are in range, and all that it has seen agrees. It names no request of the process that isn't announced, and few
-- rounds overtake the process's last one
pub record IsSeat (v : Knowledge) (process published : ℕ) : Type 0 where
  pub one_part : length v.parts ≡ 1
  pub accounts : length (own_part v).asking ≡ length v.book.accounts
  pub words : length (own_part v).stored ≡ record_width v.book
  pub next_words : (a slot : ℕ) → HasSlot v.book v.first a slot → length (asking_on (own_part v) a).stored ≡ REQUEST_WORDS
  pub process_is : v.first ≡ process
  pub published_is : (own_part v).published ≡ published
  pub own : count_of v.first v.seen ≡ published
  pub asked : SeesOwnRequests v
  pub known : v.first < v.book.processes
  pub book : IsBook v.book
  pub history : IsHistory v.book v.seen
  pub in_range : SeesInRange v
  pub agrees : AgreesWithSeen v
  pub names : (a slot : ℕ) → HasSlot v.book v.first a slot → NamesOnlyAnnounced v a slot (length (asking_on (own_part v) a).announced)
  pub overtaken : FewOvertake v

-- what is kept of a seat between all steps
abbrev pub IsKept : Knowledge → Type 0
IsKept v = IsSeat v v.first (own_part v).published

-- the seat belongs to the board
pub record IsOf (seat : SeatTerms) (board : BoardTerms) : Type 0 where
  pub id : seat.board ≡ board.id
  pub book : seat.knows.book ≡ board.book
