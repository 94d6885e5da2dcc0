-- What a node has read, validated and told that was given some logs.
use Rattle.std.specs.Prelude.{◌≡◌, ℕ, ◌+◌, ◌<◌, List, [], ◌∷◌, ◌++◌, All, Vec, length, map, slice_index_or, sum}
use Rattle.at_follow.specs.Prelude.{Answer, AreTargetsOn, BookTerms, Forked, Global, HasReadLogs, IsHistoryOf, IsReading, LogBytes, MessageList, NodeTerms, NotAnEntry, Promises, ReadingState, Taken, TakesFrom, TellsNext, TellsOn, Told, contents_of, logs_of, opened_node, read_state, total_of}
use Rattle.at_follow.specs.declared.following.EntryFault.{EntryFault}
use Rattle.at_follow.specs.declared.following.EntryWhy.TheVariants as why
use Rattle.at_follow.specs.declared.following.Followed.{Followed}

-- the bytes at each place of each log, where the program holds them
abbrev pub log_bytes : List (Vec (Vec ℕ Global) Global) → LogBytes
log_bytes logs = map contents_of (contents_of logs)

-- the bytes at the places of one log
abbrev pub entries_at : LogBytes → ℕ → List (List ℕ)
entries_at logs log = slice_index_or logs log []

-- a node is given the entry at a place of a log, and this is its answer
pub record IsGiven (logs : LogBytes) (log place : ℕ) (answer : Answer) (s t : ReadingState) : Type 0 where
  pub call : TakesFrom logs s t
  pub in_log : call.log ≡ log
  pub at_place : call.place ≡ place
  pub answered : call.answer ≡ answer

-- a new node goes through the logs, and the entry at this place of this log comes next: so far it has read `s`, with these faults. After an
-- entry or one that is passed over the next place comes; after a fork, or after its last entry, the next log
pub data GoesThrough (b : BookTerms) (hash : List ℕ) (logs : LogBytes) : ℕ → ℕ → ReadingState → List EntryFault → Type 0 where
  opened : IsReading (opened_node b hash) → GoesThrough b hash logs 0 0 (opened_node b hash) []
  taken : (log place : ℕ) (s t : ReadingState) (faults : List EntryFault) → GoesThrough b hash logs log place s faults
      → IsGiven logs log place Taken s t → GoesThrough b hash logs log (place + 1) t faults
  passed : (log place : ℕ) (s t : ReadingState) (faults : List EntryFault) → GoesThrough b hash logs log place s faults
      → IsGiven logs log place NotAnEntry s t
      → GoesThrough b hash logs log (place + 1) t (faults ++ record { log = log; place = place; why = why.NotAnEntry } ∷ [])
  forked : (log place : ℕ) (s t : ReadingState) (faults : List EntryFault) → GoesThrough b hash logs log place s faults
      → IsGiven logs log place Forked s t
      → GoesThrough b hash logs (log + 1) 0 t (faults ++ record { log = log; place = place; why = why.Forked } ∷ [])
  ended : (log place : ℕ) (s : ReadingState) (faults : List EntryFault) → GoesThrough b hash logs log place s faults
      → place ≡ length (entries_at logs log) → GoesThrough b hash logs (log + 1) 0 s faults

-- the messages are told one after another, each as the next one that a node can tell
pub data TellsEach (s : ReadingState) : List Told → ReadingState → Type 0 where
  none : TellsEach s [] s
  more : (told : List Told) (next : Told) (t u : ReadingState) → TellsEach s told t → TellsNext t u next → TellsEach s (told ++ next ∷ []) u

-- a node has come to this place of this log
pub record IsFollowing (b : BookTerms) (hash : List ℕ) (logs : LogBytes) (log place : ℕ) (n : NodeTerms) (faults : List EntryFault) : Type 0 where
  pub messages : List MessageList
  pub history : IsHistoryOf messages n
  pub goes : GoesThrough b hash logs log place (read_state n messages) faults

-- a node that had read `s` has told these messages, and with them all that it has validated
pub record HasToldAll (s : ReadingState) (told : List Told) (n : NodeTerms) : Type 0 where
  pub history : IsHistoryOf s.node.messages n
  pub tells : TellsEach s told (read_state n s.node.messages)
  pub all : n.core.told ≡ n.core.validated
  pub of_logs : TellsOn s (read_state n s.node.messages)

-- a message of one of so many logs, between some of so many accounts
pub record IsToldOn (logs accounts : ℕ) (t : Told) : Type 0 where
  pub log : t.log < logs
  pub source : t.from < accounts
  pub targets : AreTargetsOn accounts t.targets

-- all that was followed is of the book
pub record IsFollowedOn (b : BookTerms) (f : Followed) : Type 0 where
  pub book : f.node.book ≡ b
  pub logs : f.node.core.book ≡ logs_of b
  pub told : All (IsToldOn (logs_of b).logs (length b.accounts)) f.told.items
  pub faults : All (λ x. x.log < (logs_of b).logs) f.faults.items
  pub counts : length f.node.core.validated ≡ (logs_of b).logs
  pub balances : length f.node.core.balances ≡ length b.accounts
  pub total : sum f.node.core.balances ≡ total_of b

-- a node that was given these logs, log after log, has read `read` with just these faults; of that it has told these messages, and with them
-- all that it has validated. So it is one that has read bytes of these logs, and all is so that is promised of such a node
pub record IsFollowed (b : BookTerms) (hash : List ℕ) (logs : LogBytes) (f : Followed) : Type 0 where
  pub read : ReadingState
  pub end : ReadingState
  pub goes : GoesThrough b hash logs (logs_of b).logs 0 read f.faults.items
  pub tells : TellsEach read f.told.items end
  pub all : end.told ≡ end.node.validated
  pub node : end ≡ read_state f.node end.node.messages
  pub history : IsHistoryOf end.node.messages f.node
  pub of_logs : HasReadLogs b hash logs end
  pub promises : Promises end
