-- Which of the delivered messages are validated.
use Rattle.std.specs.Prelude.{◌≡◌, ℕ, ◌+◌, ℤ, pos, ◌-ℤ◌, ◌≤ℤ◌, List, replicate, slice_index, slice_set, Some}
use Rattle.at_broadcast.specs.Prelude.{Covers, amount_of}
use Rattle.at_broadcast.specs.LogBook.{LogTerms, account_on_logs}
use Rattle.at_broadcast.specs.Messages.{MessageList, message_credit, message_debit, message_of, sum_of_first}
use Rattle.at_broadcast.specs.declared.message.Message.{Message}

-- what came to an account, with its opening, by the first messages of each log, as many as `counts` says
abbrev pub came : LogTerms → List MessageList → List ℕ → ℕ → ℕ
came b messages counts account = (account_on_logs b account).opening + sum_of_first (message_credit account) messages counts

-- what went from it by them
abbrev pub went : List MessageList → List ℕ → ℕ → ℕ
went messages counts account = sum_of_first (message_debit account) messages counts

-- what they leave there: it is below zero where they spend a credit that isn't among them
unfoldable pub balance_at : LogTerms → List MessageList → List ℕ → ℕ → ℤ
balance_at b messages counts account = pos (came b messages counts account) -ℤ pos (went messages counts account)

-- the next message of a log after those that are counted is this one and is valid there: the log debits its source,
-- its `deps` count all of the log before it and no others than are counted, and the balance at `deps` covers the sum of its amounts
pub record IsValid (b : LogTerms) (messages : List MessageList) (counts : List ℕ) (p : ℕ) (m : Message) : Type 0 where
  pub delivered : message_of messages p (slice_index counts p) ≡ Some m
  pub owner : (account_on_logs b m.from).log ≡ Some p
  pub own : slice_index m.deps p ≡ slice_index counts p
  pub covered : Covers counts m.deps
  pub balance : pos (amount_of m.targets) ≤ℤ balance_at b messages m.deps m.from

-- one more of a log
abbrev pub one_more_of : List ℕ → ℕ → List ℕ
one_more_of counts p = slice_set counts p (slice_index counts p + 1)

-- counts that are reached from zeros by raising entries whose next message is valid
pub data Reached (b : LogTerms) (messages : List MessageList) : List ℕ → Type 0 where
  zeros : Reached b messages (replicate b.logs 0)
  raise : (counts : List ℕ) (p : ℕ) (m : Message) → Reached b messages counts → IsValid b messages counts p m
      → Reached b messages (one_more_of counts p)

-- the validated counts: they are reached by raising, and there no next message is valid
pub record IsClosed (b : LogTerms) (messages : List MessageList) (counts : List ℕ) : Type 0 where
  pub reached : ∥ Reached b messages counts ∥₁
  pub done : (p : ℕ) (m : Message) → ¬ IsValid b messages counts p m

-- no others are
abbrev pub IsOnlyClosed : LogTerms → List MessageList → List ℕ → Type 0
IsOnlyClosed b messages counts = (others : List ℕ) → IsClosed b messages others → others ≡ counts
