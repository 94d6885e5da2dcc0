-- An entry: what one append leaves in a log, and the one form of it as bytes.
use Rattle.std.specs.Prelude.{◌≡◌, ℕ, ◌+◌, ◌<◌, ◌≤◌, ◌^◌, List, [], ◌∷◌, ◌++◌, length, map, All, slice_index, slice_index_or, slice_set}
use Rattle.std.specs.Int.{w32, w64, to_be_bytes}
use Rattle.at_logs.specs.Prelude.{range_with_len, AreTargetsOn, Message, TargetPair, flat_map, most_targets}
use Rattle.at_logs.specs.declared.entry.EntryMessage.{EntryMessage}

-- who wrote it, how many messages of each log its writer's node had validated, the hash of the book, the hash of the entry before it in
-- its log, and its messages
pub record EntryTerms : Type 0 where
  pub writer : ℕ
  pub deps : List ℕ
  pub book : List ℕ
  pub before : List ℕ
  pub messages : List EntryMessage

-- messages of one entry
abbrev pub most_in_entry : ℕ
most_in_entry = 64

-- bytes of one entry
abbrev pub most_entry_bytes : ℕ
most_entry_bytes = 16384

-- the first byte, the version of the form
abbrev pub entry_version : ℕ
entry_version = 1

-- how many there are, in one byte, and the bytes of each
abbrev pub listed_bytes : {A : Type 0} → (A → List ℕ) → List A → List ℕ
listed_bytes bytes_of xs = length xs ∷ flat_map bytes_of xs

-- an account in four bytes, and an amount in eight
abbrev pub target_bytes : TargetPair → List ℕ
target_bytes t = to_be_bytes w32 t.0 ++ to_be_bytes w64 t.1

abbrev pub message_bytes : EntryMessage → List ℕ
message_bytes m = to_be_bytes w32 m.from ++ (listed_bytes target_bytes m.targets ++ m.reference)

-- what stands before the messages
abbrev pub head_bytes : EntryTerms → List ℕ
head_bytes e = entry_version ∷ (to_be_bytes w32 e.writer ++ (flat_map (to_be_bytes w32) e.deps ++ (e.book ++ e.before)))

abbrev pub entry_bytes : EntryTerms → List ℕ
entry_bytes e = head_bytes e ++ listed_bytes message_bytes e.messages

-- so many bytes
pub record AreBytes (n : ℕ) (bytes : List ℕ) : Type 0 where
  pub long : length bytes ≡ n
  pub each : All (λ b. b < 256) bytes

-- a message that has bytes: it has one to four targets
pub record HasMessageBytes (m : EntryMessage) : Type 0 where
  pub some : 1 ≤ length m.targets
  pub few : length m.targets ≤ most_targets
  pub amounts : All (λ t. t.1 < 2 ^ 64) m.targets
  pub reference : AreBytes 16 m.reference

-- an entry that has bytes: it has 1 to 64 messages
pub record HasBytes (e : EntryTerms) : Type 0 where
  pub counts : All (λ n. n < 2 ^ 32) e.deps
  pub book : AreBytes 32 e.book
  pub before : AreBytes 32 e.before
  pub some : 1 ≤ length e.messages
  pub few : length e.messages ≤ most_in_entry
  pub messages : All HasMessageBytes e.messages

-- it names a process and accounts of a book with so many of each, and has a count for each of so many logs
pub record NamesKnown (logs accounts processes : ℕ) (e : EntryTerms) : Type 0 where
  pub writer : e.writer < processes
  pub deps : length e.deps ≡ logs
  pub sources : All (λ m. m.from < accounts) e.messages
  pub targets : All (λ m. AreTargetsOn accounts m.targets) e.messages

-- the entry is one of such a book
pub record IsEntryOn (logs accounts processes : ℕ) (e : EntryTerms) : Type 0 where
  pub bytes : HasBytes e
  pub names : NamesKnown logs accounts processes e

-- the message at a position of an entry
abbrev pub entry_message : EntryTerms → ℕ → EntryMessage
entry_message e i = slice_index_or e.messages i (record { from = 0; targets = []; reference = [] })

-- the same as a message of this log: it has the entry's `deps`, but for the log's own count, which rises by one from message to message
abbrev pub message_in_log : EntryTerms → ℕ → ℕ → Message
message_in_log e log i = record {
  from = (entry_message e i).from;
  targets = (entry_message e i).targets;
  reference = (entry_message e i).reference;
  deps = slice_set e.deps log (slice_index e.deps log + i);
}

-- all of them
abbrev pub messages_in_log : EntryTerms → ℕ → List Message
messages_in_log e log = map (message_in_log e log) (range_with_len 0 (length e.messages))
