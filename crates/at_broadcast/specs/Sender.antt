-- What a node has of one sender.
use Rattle.std.specs.Prelude.{◌≡◌, ℕ, ◌+◌, ◌-◌, ◌*◌, ◌^◌, ◌<◌, ◌≤◌, ◌++◌, List, [], ◌∷◌, length, replicate, take, drop, sum_by, slice_index_or, slice_set, All, Option}
use Rattle.at_broadcast.specs.Prelude.{TargetPair, most_targets}
use Rattle.at_broadcast.specs.Credits.{CreditList, amount_since, credit_after}
use Rattle.at_broadcast.specs.Messages.{MessageList, message_credit, no_messages, targets_in, times_named, times_to}
use Rattle.at_broadcast.specs.declared.message.Message.{Message}
use Rattle.at_broadcast.specs.declared.message.TheConstants.{MESSAGES_MAX}

-- its messages by number, and its credits to each account
pub record SenderState : Type 0 where
  pub messages : MessageList
  pub credits : List CreditList

abbrev pub no_credits : CreditList
no_credits = record { list = []; room = 0 }

-- a sender of whom nothing was delivered
abbrev pub new_sender : ℕ → SenderState
new_sender accounts = record { messages = no_messages; credits = replicate accounts no_credits }

-- its credits to an account
abbrev pub credits_to : SenderState → ℕ → CreditList
credits_to s account = slice_index_or s.credits account no_credits

-- the list with one more credit, which has used its room
abbrev pub with_one_credit : CreditList → ℕ → ℕ → CreditList
with_one_credit c number amount = record { list = c.list ++ credit_after c.list number amount ∷ []; room = c.room - 1 }

-- the same credits, with room for one more to each of these targets
pub record MakesRoom (targets : List TargetPair) (before after : SenderState) : Type 0 where
  pub sized : length after.credits ≡ length before.credits
  pub kept : (account : ℕ) → (credits_to after account).list ≡ (credits_to before account).list
  pub room : (account : ℕ) → account < length before.credits
      → (credits_to before account).room + times_to account targets ≤ (credits_to after account).room

-- this stands at a number, and there is room for what it brings
pub record IsStored (before : SenderState) (number : ℕ) (o : Option Message) (after : SenderState) : Type 0 where
  pub messages : after.messages ≡ slice_set before.messages number o
  pub credits : MakesRoom (targets_in o) before after

-- there is room for what a message of this number brings to its targets, and none of a later one is counted
pub record HasRoomFor (targets : List TargetPair) (number : ℕ) (s : SenderState) : Type 0 where
  pub room : (account : ℕ) → account < length s.credits → times_to account targets ≤ (credits_to s account).room
  pub later : (account : ℕ) → account < length s.credits → All (λ c. c.number ≤ number) (credits_to s account).list
  pub few : (account : ℕ) → account < length s.credits → length (credits_to s account).list + length targets ≤ 2 ^ 40

-- what one target of a message brings is counted
abbrev pub target_counted : SenderState → ℕ → TargetPair → SenderState
target_counted s number t = record s { credits = slice_set s.credits t.0 (with_one_credit (credits_to s t.0) number t.1) }

-- what each of its targets brings is counted
unfoldable pub message_counted : SenderState → ℕ → List TargetPair → SenderState
message_counted s number [] = s
message_counted s number (t ∷ targets) = message_counted (target_counted s number t) number targets

-- what its first messages bring to an account
abbrev pub brought : MessageList → ℕ → ℕ → ℕ
brought messages account count = sum_by (message_credit account) (take count messages)

-- the credits to an account are those of the validated messages, and there is room for the others that were delivered
pub record AreCreditsTo (messages : MessageList) (validated account : ℕ) (c : CreditList) : Type 0 where
  pub earlier : All (λ c. c.number < validated) c.list
  pub few : length c.list ≤ validated * most_targets
  pub since : (count : ℕ) → count ≤ validated
      → amount_since count c.list + brought messages account count ≡ brought messages account validated
  pub room : sum_by (times_named account) (drop validated messages) ≤ c.room

-- what holds of a sender of whom so many messages are validated
pub record IsSender (accounts validated : ℕ) (s : SenderState) : Type 0 where
  pub messages : length s.messages ≡ MESSAGES_MAX
  pub within : validated ≤ MESSAGES_MAX
  pub sized : length s.credits ≡ accounts
  pub credits : (account : ℕ) → account < accounts → AreCreditsTo s.messages validated account (credits_to s account)
