-- Nodes that were given bytes of the same logs.
use Rattle.std.specs.Prelude.{◌≡◌, ℕ, ◌<◌, ◌≤◌, List, [], slice_get, slice_index, slice_index_or, Some}
use Rattle.at_logs.specs.Prelude.{BookTerms, Follows, message_of}
use Rattle.at_logs.specs.Answers.{IsAnswerAt, LeavesAfter}
use Rattle.at_logs.specs.Reading.{IsReading, ReadingState, opened_node, tail_of}
use Rattle.at_logs.specs.declared.node.Answer.{Answer}

-- the bytes at each place of each log
abbrev pub LogBytes : Type 0
LogBytes = List (List (List ℕ))

-- these stand at a place of a log
abbrev pub StandsAt : LogBytes → ℕ → ℕ → List ℕ → Type 0
StandsAt logs log place bytes = slice_get (slice_index_or logs log []) place ≡ Some bytes

-- one call of `take`, with bytes that stand there
pub record TakesFrom (logs : LogBytes) (s t : ReadingState) : Type 0 where
  pub log : ℕ
  pub place : ℕ
  pub bytes : List ℕ
  pub answer : Answer
  pub known : log < s.node.book.logs
  pub stands : StandsAt logs log place bytes
  pub answered : IsAnswerAt s log place bytes answer
  pub left : LeavesAfter s log bytes t answer
  pub reading : IsReading t

-- the node has told more, or less, and is else the same
abbrev pub IsButTold : ReadingState → ReadingState → Type 0
IsButTold s t = t ≡ record s { told = t.told }

-- a node of the book that has read bytes of these logs by such calls, in whatever order; to tell what is validated reads nothing
pub data HasReadLogs (b : BookTerms) (hash : List ℕ) (logs : LogBytes) : ReadingState → Type 0 where
  opened : IsReading (opened_node b hash) → HasReadLogs b hash logs (opened_node b hash)
  taken : (s t : ReadingState) → HasReadLogs b hash logs s → TakesFrom logs s t → HasReadLogs b hash logs t
  told : (s t : ReadingState) → HasReadLogs b hash logs s → IsButTold s t → IsReading t → HasReadLogs b hash logs t

-- what stands in the logs stands in these too: they have grown
abbrev pub HaveGrown : LogBytes → LogBytes → Type 0
HaveGrown logs more = (log place : ℕ) (bytes : List ℕ) → StandsAt logs log place bytes → StandsAt more log place bytes

-- who has read logs has read what they grow to, as far
abbrev pub ReadsGrown : ReadingState → Type 0
ReadsGrown s = (b : BookTerms) (hash : List ℕ) (logs more : LogBytes) → HasReadLogs b hash logs s → HaveGrown logs more → HasReadLogs b hash more s

-- two nodes of one book did, each as far as it has read
pub record ReadBoth (logs : LogBytes) (other s : ReadingState) : Type 0 where
  pub there : HasReadLogs s.book s.hash logs other
  pub here : HasReadLogs s.book s.hash logs s

-- the one has read no more places of any log
abbrev pub HasReadNoMore : ReadingState → ReadingState → Type 0
HasReadNoMore other s = (p : ℕ) → p < s.node.book.logs → (tail_of other p).entries ≤ (tail_of s p).entries

-- the same places of each
abbrev pub HasReadAsMuch : ReadingState → ReadingState → Type 0
HasReadAsMuch other s = (p : ℕ) → p < s.node.book.logs → (tail_of other p).entries ≡ (tail_of s p).entries

-- who has read the same of the same logs is the same node, but for what it told
abbrev pub AgreesOnLogs : ReadingState → Type 0
AgreesOnLogs s = (logs : LogBytes) (other : ReadingState) → ReadBoth logs other s → HasReadAsMuch other s → IsButTold other s

-- who has read no more was given no more
abbrev pub FollowsOnLogs : ReadingState → Type 0
FollowsOnLogs s = (logs : LogBytes) (other : ReadingState) → ReadBoth logs other s → HasReadNoMore other s → Follows other.node s.node

-- however far each has read, both have validated the same message wherever both have one of that log and number
abbrev pub SharesPrefixesOnLogs : ReadingState → Type 0
SharesPrefixesOnLogs s = (logs : LogBytes) (other : ReadingState) → ReadBoth logs other s → (p number : ℕ)
    → number < slice_index other.node.validated p → number < slice_index s.node.validated p
    → message_of other.node.messages p number ≡ message_of s.node.messages p number

-- and where their counts are equal, so are their balances
abbrev pub SharesBalancesOnLogs : ReadingState → Type 0
SharesBalancesOnLogs s = (logs : LogBytes) (other : ReadingState) → ReadBoth logs other s → other.node.validated ≡ s.node.validated
    → other.node.balances ≡ s.node.balances

-- a call of `take` goes on with the same logs
abbrev pub ReadsOn : ReadingState → ℕ → ℕ → List ℕ → ReadingState → Type 0
ReadsOn s log place bytes t = (b : BookTerms) (hash : List ℕ) (logs : LogBytes) → HasReadLogs b hash logs s → StandsAt logs log place bytes → HasReadLogs b hash logs t

-- so does one that tells
abbrev pub TellsOn : ReadingState → ReadingState → Type 0
TellsOn s t = (b : BookTerms) (hash : List ℕ) (logs : LogBytes) → HasReadLogs b hash logs s → HasReadLogs b hash logs t
