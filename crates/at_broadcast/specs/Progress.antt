-- What a node keeps for each sender, and what holds of it.
use Rattle.std.specs.Prelude.{◌≡◌, ℕ, ◌+◌, ◌<◌, List, [], length, map, sum, slice_index, slice_index_or, Some}
use Rattle.at_broadcast.specs.LogBook.{LogTerms, IsLogBook, total_on_logs}
use Rattle.at_broadcast.specs.Messages.{IsMessageOn, MessageList, message_of}
use Rattle.at_broadcast.specs.Sender.{IsSender, SenderState}
use Rattle.at_broadcast.specs.Validated.{Reached, came, went}
use Rattle.at_broadcast.specs.declared.message.Message.{Message}

-- a log of which no message was delivered
abbrev pub no_sender : SenderState
no_sender = record { messages = []; credits = [] }

-- what is kept of a sender
abbrev pub sender_of : List SenderState → ℕ → SenderState
sender_of senders p = slice_index_or senders p no_sender

-- the messages of each sender
abbrev pub messages_of : List SenderState → List MessageList
messages_of senders = map (λ s. s.messages) senders

-- the counts are reached by raising, the credits of each sender are those of its validated messages, and the balances are
-- those at the counts
pub record IsProgress (b : LogTerms) (counts : List ℕ) (senders : List SenderState) (balances : List ℕ) : Type 0 where
  pub book : IsLogBook b
  pub counted : length counts ≡ b.logs
  pub sized : length senders ≡ b.logs
  pub credits : (p : ℕ) → p < b.logs → IsSender (length b.accounts) (slice_index counts p) (sender_of senders p)
  pub known : (p number : ℕ) (m : Message) → message_of (messages_of senders) p number ≡ Some m → IsMessageOn b.logs (length b.accounts) m
  pub reached : ∥ Reached b (messages_of senders) counts ∥₁
  pub balanced : length balances ≡ length b.accounts
  pub balance : (a : ℕ) → a < length b.accounts
      → slice_index balances a + went (messages_of senders) counts a ≡ came b (messages_of senders) counts a
  pub total : sum balances ≡ total_on_logs b
