-- What a node over logs has read.
use Rattle.std.specs.Prelude.{◌≡◌, ℕ, ◌+◌, ◌<◌, ◌≤◌, IsSome, List, [], length, replicate, slice_index, slice_index_or, Some, None}
use Rattle.at_logs.specs.Prelude.{BookTerms, IsMessageOn, message_of, IsNode, MessageList, NodeState, starting_state, Message, Reached, no_messages}
use Rattle.at_logs.specs.Compact.{CompactState, IsKeptOf, backlog_of, new_state, whole_node}
use Rattle.at_logs.specs.Logs.{logs_of}
use Rattle.at_logs.specs.declared.tail.Tail.{Tail}

-- a book and its hash, the node of the messages that were read, the tail of each log, and how many messages of each were told
pub record ReadingState : Type 0 where
  pub book : BookTerms
  pub hash : List ℕ
  pub node : NodeState
  pub tails : List Tail
  pub told : List ℕ

-- of one of so many logs, when nothing of it was read
abbrev pub no_tail : ℕ → Tail
no_tail logs = record { entries = 0; messages = 0; deps = replicate logs 0; hash = replicate 32 0 }

abbrev pub tail_of : ReadingState → ℕ → Tail
tail_of s log = slice_index_or s.tails log (no_tail 0)

-- the messages of the log up to the tail were read, and none beyond it, and its `deps` are zeros before the first message, and later no more
-- than those of the last one. Each message is one on the book, counts all of its log before it, and no more of the others than the tail's `deps` do. The tail has how many entries and messages were read, the counts of the last
-- entry, and the hash of the bytes at the last place, or zeros before the first
pub record IsTail (n : NodeState) (p : ℕ) (t : Tail) : Type 0 where
  pub counted : length t.deps ≡ n.book.logs
  pub read : (number : ℕ) → number < t.messages → IsSome (message_of n.messages p number)
  pub unread : (number : ℕ) → t.messages ≤ number → message_of n.messages p number ≡ None
  pub first : t.messages ≡ 0 → t.deps ≡ replicate n.book.logs 0
  pub later : (number : ℕ) (m : Message) → t.messages ≡ number + 1 → message_of n.messages p number ≡ Some m
      → (q : ℕ) → slice_index t.deps q ≤ slice_index m.deps q
  pub named : (number : ℕ) (m : Message) → message_of n.messages p number ≡ Some m → IsMessageOn n.book.logs (length n.book.accounts) m
  pub own : (number : ℕ) (m : Message) → message_of n.messages p number ≡ Some m → slice_index m.deps p ≡ number
  pub others : (number : ℕ) (m : Message) → message_of n.messages p number ≡ Some m → (q : ℕ) → ¬ (q ≡ p) → slice_index m.deps q ≤ slice_index t.deps q

-- what holds of every such node: it is a node over the logs of the book, each log has its tail, and what was told is reached by raising
pub record IsReading (s : ReadingState) : Type 0 where
  pub node : IsNode s.node
  pub book : s.node.book ≡ logs_of s.book
  pub sized : length s.tails ≡ s.node.book.logs
  pub tails : (p : ℕ) → p < s.node.book.logs → IsTail s.node p (tail_of s p)
  pub told : ∥ Reached s.node.book s.node.messages s.told ∥₁

-- a node that has read nothing, and told nothing
abbrev pub opened_node : BookTerms → List ℕ → ReadingState
opened_node b hash = record {
  book = b;
  hash = hash;
  node = starting_state (logs_of b);
  tails = replicate (logs_of b).logs (no_tail (logs_of b).logs);
  told = replicate (logs_of b).logs 0;
}

-- ---- what a node keeps

-- a book and its hash, what is kept of the messages that were read, and the tail of each log
pub record NodeTerms : Type 0 where
  pub book : BookTerms
  pub hash : List ℕ
  pub core : CompactState
  pub tails : List Tail

-- what a node has read, where these are the messages that it did
abbrev pub read_state : NodeTerms → List MessageList → ReadingState
read_state n messages = record { book = n.book; hash = n.hash; node = whole_node n.core messages; tails = n.tails; told = n.core.told }

-- the same without the messages, for all that doesn't depend on them
abbrev pub shown : NodeTerms → ReadingState
shown n = read_state n []

-- the node has read these messages, and what it keeps is kept of them
pub record IsHistoryOf (messages : List MessageList) (n : NodeTerms) : Type 0 where
  pub reading : IsReading (read_state n messages)
  pub kept : IsKeptOf messages n.core

-- so it is of whatever the node has read
abbrev pub WhateverRead : NodeTerms → (ReadingState → Type 0) → Type 0
WhateverRead n holds = (messages : List MessageList) → IsHistoryOf messages n → holds (read_state n messages)

-- what holds of every node, whatever it has read
pub record IsRecord (n : NodeTerms) : Type 0 where
  pub book : n.core.book ≡ logs_of n.book
  pub sized : length n.tails ≡ n.core.book.logs
  pub counted : (p : ℕ) → p < n.core.book.logs → length (tail_of (shown n) p).deps ≡ n.core.book.logs
  pub read : (p : ℕ) → p < n.core.book.logs → (tail_of (shown n) p).messages ≡ slice_index n.core.told p + length (backlog_of n.core.backlogs p).messages

-- no message of a log of the book
abbrev pub nothing_read : BookTerms → List MessageList
nothing_read b = replicate (logs_of b).logs no_messages

-- what a node keeps that has read nothing
abbrev pub opened_terms : BookTerms → List ℕ → NodeTerms
opened_terms b hash = record {
  book = b;
  hash = hash;
  core = new_state (logs_of b);
  tails = replicate (logs_of b).logs (no_tail (logs_of b).logs);
}
