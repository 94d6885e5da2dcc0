-- What a node was given, how far it is validated, and what holds of it.
use Rattle.std.specs.Prelude.{◌≡◌, ℕ, ◌+◌, ◌-◌, ◌<◌, List, length, map, replicate, sum, sum_by, slice_index, pos, ◌≤ℤ◌, IsSome}
use Rattle.at_broadcast.specs.LogBook.{LogTerms, IsLogBook, total_on_logs}
use Rattle.at_broadcast.specs.Messages.{MessageList, list_of, message_of, no_messages}
use Rattle.at_broadcast.specs.Validated.{IsValid, Reached, balance_at, came, went}
use Rattle.at_broadcast.specs.declared.message.Message.{Message}
use Rattle.at_broadcast.specs.declared.message.TheConstants.{MESSAGES_MAX}
use Rattle.at_broadcast.specs.declared.payout.Payout.{Payout}

-- the messages of each log, how many of each are validated, and the balance of each account
pub record NodeState : Type 0 where
  pub book : LogTerms
  pub messages : List MessageList
  pub validated : List ℕ
  pub balances : List ℕ

-- how many messages can still be validated
abbrev pub left : List ℕ → ℕ
left counts = sum_by (λ n. MESSAGES_MAX - n) counts

-- the counts are reached by raising, and the balances are those at the counts: together the openings
pub record IsSteady (s : NodeState) : Type 0 where
  pub book : IsLogBook s.book
  pub sized : length s.messages ≡ s.book.logs
  pub lists : (p : ℕ) → p < s.book.logs → length (list_of s.messages p) ≡ MESSAGES_MAX
  pub counted : length s.validated ≡ s.book.logs
  pub reached : ∥ Reached s.book s.messages s.validated ∥₁
  pub balanced : length s.balances ≡ length s.book.accounts
  pub balance : (a : ℕ) → a < length s.book.accounts
      → slice_index s.balances a + went s.messages s.validated a ≡ came s.book s.messages s.validated a
  pub total : sum s.balances ≡ total_on_logs s.book

-- what holds of every node: it is steady, and no next message is valid
pub record IsNode (s : NodeState) : Type 0 where
  pub steady : IsSteady s
  pub done : (p : ℕ) (m : Message) → ¬ IsValid s.book s.messages s.validated p m

-- a node to which nothing was delivered
abbrev pub starting_state : LogTerms → NodeState
starting_state b = record {
  book = b;
  messages = replicate b.logs no_messages;
  validated = replicate b.logs 0;
  balances = map (λ t. t.opening) b.accounts;
}

-- the pay-out is that of a message that is valid next
pub record IsValidNext (s : NodeState) (t : Payout) : Type 0 where
  pub message : Message
  pub valid : IsValid s.book s.messages s.validated t.log message
  pub source : t.from ≡ message.from
  pub targets : t.targets ≡ message.targets

-- each balance is that at the validated counts
abbrev pub ShowsBalances : NodeState → Type 0
ShowsBalances s = (a : ℕ) → a < length s.book.accounts → pos (slice_index s.balances a) ≡ balance_at s.book s.messages s.validated a

-- the validated messages of a log are the first of its list: all of the first so many were delivered
abbrev pub HasPrefixes : NodeState → Type 0
HasPrefixes s = (p number : ℕ) → number < slice_index s.validated p → IsSome (message_of s.messages p number)

-- no balance is below zero
abbrev pub IsSolvent : NodeState → Type 0
IsSolvent s = (a : ℕ) → a < length s.book.accounts → pos 0 ≤ℤ balance_at s.book s.messages s.validated a

-- every node of the same book to which the same messages were delivered is the same, whatever their order
abbrev pub AgreesWithAll : NodeState → Type 0
AgreesWithAll s = (other : NodeState) → IsNode other → other.book ≡ s.book → other.messages ≡ s.messages → other ≡ s
