-- The messages that were delivered, and what they move.
use Rattle.std.specs.Prelude.{◌≡◌, ℕ, ◌==◌, ◌+◌, ◌-◌, ◌<◌, ◌≤◌, ◌++◌, List, [], ◌∷◌, length, take, replicate, sum_by, slice_index, slice_index_or, slice_set, Option, Some, None, if◌then◌else◌}
use Rattle.at_broadcast.specs.Prelude.{range_with_len, AreTargetsOn, TargetPair, amount_of, most_targets}
use Rattle.at_broadcast.specs.declared.message.Message.{Message}
use Rattle.at_broadcast.specs.declared.message.TheConstants.{MESSAGES_MAX}

-- the messages of one log by number, as far as they were delivered
abbrev pub MessageList : Type 0
MessageList = List (Option Message)

-- none was delivered
unfoldable pub no_messages : MessageList
no_messages = replicate MESSAGES_MAX None

-- messages as far as they are kept, and none after them
unfoldable pub filled : MessageList → MessageList
filled list = list ++ replicate (MESSAGES_MAX - length list) None

-- the list of a log
abbrev pub list_of : List MessageList → ℕ → MessageList
list_of messages p = slice_index_or messages p []

-- the message of this number in a list
abbrev pub message_at : MessageList → ℕ → Option Message
message_at list number = slice_index_or list number None

-- the message of a log and number, if it was delivered
abbrev pub message_of : List MessageList → ℕ → ℕ → Option Message
message_of messages p number = message_at (list_of messages p) number

-- the lists where this stands at a number of a log
abbrev pub with_place : List MessageList → ℕ → ℕ → Option Message → List MessageList
with_place messages p number o = slice_set messages p (slice_set (list_of messages p) number o)

-- the lists with one more message
abbrev pub with_message : List MessageList → ℕ → ℕ → Message → List MessageList
with_message messages p number m = with_place messages p number (Some m)

-- the lists with more messages of a log, from a number on
abbrev pub with_messages : List MessageList → ℕ → ℕ → List Message → List MessageList
with_messages messages p number [] = messages
with_messages messages p number (m ∷ others) = with_messages (with_message messages p number m) p (number + 1) others

-- what targets bring to an account
abbrev pub amount_to : ℕ → List TargetPair → ℕ
amount_to account targets = sum_by (λ t. if t.0 == account then t.1 else 0) targets

-- how many of them are the account
abbrev pub times_to : ℕ → List TargetPair → ℕ
times_to account targets = sum_by (λ t. if t.0 == account then 1 else 0) targets

-- what a message brings to an account
abbrev pub message_credit : ℕ → Option Message → ℕ
message_credit account None = 0
message_credit account (Some m) = amount_to account m.targets

-- what it takes from an account
abbrev pub message_debit : ℕ → Option Message → ℕ
message_debit account None = 0
message_debit account (Some m) = if m.from == account then amount_of m.targets else 0

-- the sum of a weight over the first messages of each log, as many as `counts` says
abbrev pub sum_of_first : (Option Message → ℕ) → List MessageList → List ℕ → ℕ
sum_of_first weight messages counts =
    sum_by (λ p. sum_by weight (take (slice_index counts p) (list_of messages p))) (range_with_len 0 (length messages))

-- none of so many messages of a log, from a number on, was delivered
abbrev pub IsUndelivered : List MessageList → ℕ → ℕ → ℕ → Type 0
IsUndelivered messages p number count = (k : ℕ) → k < count → message_of messages p (number + k) ≡ None

-- the targets of a message
abbrev pub targets_in : Option Message → List TargetPair
targets_in None = []
targets_in (Some m) = m.targets

-- how often a message names the account as a target
abbrev pub times_named : ℕ → Option Message → ℕ
times_named account None = 0
times_named account (Some m) = times_to account m.targets

-- the message names some of so many accounts, and has an entry of `deps` for each of so many logs
pub record IsMessageOn (logs accounts : ℕ) (m : Message) : Type 0 where
  pub source : m.from < accounts
  pub targets : AreTargetsOn accounts m.targets
  pub few : length m.targets ≤ most_targets
  pub deps : length m.deps ≡ logs
