-- What holds of a node beside any other of the same logs.
use Rattle.std.specs.Prelude.{◌≡◌, ℕ, ◌+◌, ◌<◌, ◌≤◌, List, length, slice_index, Some}
use Rattle.at_broadcast.specs.Prelude.{amount_of}
use Rattle.at_broadcast.specs.LogBook.{account_on_logs}
use Rattle.at_broadcast.specs.Messages.{MessageList, message_of}
use Rattle.at_broadcast.specs.Node.{IsNode, NodeState}
use Rattle.at_broadcast.specs.declared.message.Message.{Message}

-- all these messages are among those, each at its place
pub record Extends (messages more : List MessageList) : Type 0 where
  pub sized : length more ≡ length messages
  pub kept : (p number : ℕ) (m : Message) → message_of messages p number ≡ Some m → message_of more p number ≡ Some m

-- the node was given all that another one of its book was given
pub record Follows (other s : NodeState) : Type 0 where
  pub node : IsNode other
  pub book : other.book ≡ s.book
  pub given : Extends other.messages s.messages

-- then it has validated no fewer of any log
abbrev pub KeepsUp : NodeState → Type 0
KeepsUp s = (other : NodeState) → Follows other s → (p : ℕ) → slice_index other.validated p ≤ slice_index s.validated p

-- a payment that is made from what a node has validated, for this log
pub record IsMadeAt (s : NodeState) (p : ℕ) (m : Message) : Type 0 where
  pub log : p < s.book.logs
  pub source : m.from < length s.book.accounts
  pub owner : (account_on_logs s.book m.from).log ≡ Some p
  pub deps : m.deps ≡ s.validated
  pub amount : amount_of m.targets ≤ slice_index s.balances m.from

-- if it stands at its place it is validated by every node that was given as much as its maker
abbrev pub IsFinal : NodeState → Type 0
IsFinal s = (other : NodeState) (p : ℕ) (m : Message) → Follows other s → IsMadeAt other p m
    → message_of s.messages p (slice_index other.validated p) ≡ Some m → slice_index other.validated p + 1 ≤ slice_index s.validated p

-- both nodes were given messages of the same logs, each any of them
pub record ReadSame (logs : List MessageList) (other s : NodeState) : Type 0 where
  pub node : IsNode other
  pub there : Extends other.messages logs
  pub here : Extends s.messages logs

-- then both have validated the same message wherever both have one of that log and number
abbrev pub SharesPrefixes : NodeState → Type 0
SharesPrefixes s = (logs : List MessageList) (other : NodeState) → ReadSame logs other s → (p number : ℕ)
    → number < slice_index other.validated p → number < slice_index s.validated p → message_of other.messages p number ≡ message_of s.messages p number

-- and where their counts are equal, so are their balances
abbrev pub SharesBalances : NodeState → Type 0
SharesBalances s = (logs : List MessageList) (other : NodeState) → ReadSame logs other s → other.book ≡ s.book
    → other.validated ≡ s.validated → other.balances ≡ s.balances
