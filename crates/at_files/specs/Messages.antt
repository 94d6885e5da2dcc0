-- The messages of one process: what the records of its file spell, or the first fault.
use Rattle.std.specs.Prelude.{◌≡◌, ℕ, ◌+◌, ◌^◌, ◌<◌, ◌≤◌, Bool, ◌&&◌, List, [], ◌∷◌, length, drop, map, replicate, All, codes, decimal, nat_le, nat_lt, Option, Some, Result, Ok, Err, if◌then◌else◌}
use Rattle.at_files.specs.Prelude.{list_all, BookTerms, TargetPair, target_at, IsMessageOn, Message}
use Rattle.at_files.specs.BookRecords.{numbers_of}
use Rattle.at_files.specs.Limits.{most_messages}
use Rattle.at_files.specs.Records.{Fields, has_shape, number_at}
use Rattle.at_files.specs.Spelled.{items_of}
use Rattle.at_files.specs.declared.messages.MessagesWhy.{MessagesWhy}
use Rattle.at_files.specs.declared.messages.MessagesWhy.TheVariants.{TooManyMessages, Shape, Number, UnknownAccount, DepsOutOfRange}
use Rattle.at_files.specs.declared.spelled.BadRecord.{BadRecord}

-- whether each is a count of messages that a sender can have
abbrev pub are_counts : List ℕ → Bool
are_counts deps = list_all (λ d. nat_le d most_messages) deps

-- a message of one target, without a reference
abbrev pub sending : ℕ → ℕ → ℕ → List ℕ → Message
sending from to amount deps = record { from = from; targets = (to, amount) ∷ []; reference = replicate 16 0; deps = deps }

-- the target of such a message
abbrev pub target_of : Message → TargetPair
target_of m = target_at m.targets 0

-- a message between two of so many accounts
abbrev pub message_between : ℕ → ℕ → ℕ → ℕ → List ℕ → Result Message MessagesWhy
message_between accounts from to amount deps =
    if nat_lt from accounts && nat_lt to accounts
    then (if are_counts deps then Ok (sending from to amount deps) else Err DepsOutOfRange)
    else Err UnknownAccount

-- the same, where each field is a number
abbrev pub message_read : ℕ → Option ℕ → Option ℕ → Option ℕ → Option (List ℕ) → Result Message MessagesWhy
message_read accounts (Some from) (Some to) (Some amount) (Some deps) = message_between accounts from to amount deps
message_read accounts _ _ _ _ = Err Number

-- the message that a record spells, beside a book: accounts are given by their numbers, and `deps` has one for each process
abbrev pub message_spelled : BookTerms → Fields → Result Message MessagesWhy
message_spelled b fields =
    if has_shape (codes "send") (b.processes + 4) fields
    then message_read (length b.accounts) (number_at fields 1) (number_at fields 2) (number_at fields 3) (numbers_of (drop 4 fields))
    else Err Shape

-- the messages of a file's records, or the first fault
abbrev pub messages_spelled : BookTerms → List Fields → Result (List Message) (BadRecord MessagesWhy)
messages_spelled b records = items_of (message_spelled b) most_messages TooManyMessages records

-- the record of a message
abbrev pub fields_of_message : Message → Fields
fields_of_message m = codes "send" ∷ decimal m.from ∷ decimal (target_of m).0 ∷ decimal (target_of m).1 ∷ map decimal m.deps

-- a file beside the book can hold the message
pub record IsSent (b : BookTerms) (m : Message) : Type 0 where
  pub one : m ≡ sending m.from (target_of m).0 (target_of m).1 m.deps
  pub known : IsMessageOn b.processes (length b.accounts) m
  pub amount : (target_of m).1 < 2 ^ 64
  pub deps : All (λ d. d ≤ most_messages) m.deps

-- the records are these messages, written out one after another
pub record Sends (b : BookTerms) (records : List Fields) (messages : List Message) : Type 0 where
  pub spelled : records ≡ map fields_of_message messages
  pub each : All (IsSent b) messages
  pub few : length messages ≤ most_messages
