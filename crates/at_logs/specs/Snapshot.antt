-- A snapshot: the one form, as bytes, of what a node keeps.
use Rattle.std.specs.Prelude.{◌≡◌, ℕ, ◌<◌, ◌≤◌, ◌^◌, ◌∷◌, ◌++◌, List, All, length}
use Rattle.std.specs.Int.{w32, w64, to_be_bytes}
use Rattle.at_logs.specs.Prelude.{BookTerms, Message, flat_map}
use Rattle.at_logs.specs.Compact.{BacklogState, CompactState, IsCompact}
use Rattle.at_logs.specs.Entry.{AreBytes, listed_bytes, target_bytes}
use Rattle.at_logs.specs.Reading.{IsRecord, NodeTerms}
use Rattle.at_logs.specs.declared.credits.Credit.{Credit}
use Rattle.at_logs.specs.declared.tail.Tail.{Tail}

-- the first byte of a snapshot, the version of the form
abbrev pub snapshot_version : ℕ
snapshot_version = 1

-- counts in four bytes each, and amounts in eight
abbrev pub counts_bytes : List ℕ → List ℕ
counts_bytes counts = flat_map (to_be_bytes w32) counts

abbrev pub amounts_bytes : List ℕ → List ℕ
amounts_bytes amounts = flat_map (to_be_bytes w64) amounts

-- how many there are, in eight bytes, and the bytes of each
abbrev pub many_bytes : {A : Type 0} → (A → List ℕ) → List A → List ℕ
many_bytes bytes_of xs = to_be_bytes w64 (length xs) ++ flat_map bytes_of xs

-- a message that wasn't told
abbrev pub kept_message_bytes : Message → List ℕ
kept_message_bytes m = to_be_bytes w32 m.from ++ (listed_bytes target_bytes m.targets ++ (m.reference ++ counts_bytes m.deps))

abbrev pub credit_bytes : Credit → List ℕ
credit_bytes x = to_be_bytes w32 x.account ++ (to_be_bytes w32 x.log ++ (to_be_bytes w32 x.number ++ to_be_bytes w64 x.amount))

abbrev pub backlog_bytes : BacklogState → List ℕ
backlog_bytes l = many_bytes kept_message_bytes l.messages ++ (many_bytes credit_bytes l.credits ++ counts_bytes l.settled_at)

-- what is kept of the messages: of the logs and the accounts as many as the book has
abbrev pub core_bytes : CompactState → List ℕ
core_bytes c = counts_bytes c.validated ++ (counts_bytes c.told ++ (amounts_bytes c.settled ++ (amounts_bytes c.balances ++ flat_map backlog_bytes c.backlogs)))

abbrev pub tail_bytes : Tail → List ℕ
tail_bytes t = to_be_bytes w32 t.entries ++ (to_be_bytes w32 t.messages ++ (counts_bytes t.deps ++ t.hash))

-- all that a node keeps but for its book, of which it has the hash
abbrev pub snapshot_bytes : NodeTerms → List ℕ
snapshot_bytes n = snapshot_version ∷ (n.hash ++ (flat_map tail_bytes n.tails ++ core_bytes n.core))

-- ---- which node writes some bytes

-- a message that wasn't told has one target at least, and its numbers fit their bytes
pub record HasKeptMessageBytes (m : Message) : Type 0 where
  pub some : 1 ≤ length m.targets
  pub amounts : All (λ t. t.1 < 2 ^ 64) m.targets
  pub reference : AreBytes 16 m.reference
  pub deps : All (λ n. n < 2 ^ 32) m.deps

pub record HasCreditBytes (x : Credit) : Type 0 where
  pub number : x.number < 2 ^ 32
  pub amount : x.amount < 2 ^ 64

pub record HasBacklogBytes (l : BacklogState) : Type 0 where
  pub few_messages : length l.messages < 2 ^ 64
  pub messages : All HasKeptMessageBytes l.messages
  pub few_credits : length l.credits < 2 ^ 64
  pub credits : All HasCreditBytes l.credits
  pub settled_at : All (λ n. n < 2 ^ 32) l.settled_at

pub record HasCoreBytes (c : CompactState) : Type 0 where
  pub validated : All (λ n. n < 2 ^ 32) c.validated
  pub told : All (λ n. n < 2 ^ 32) c.told
  pub settled : All (λ n. n < 2 ^ 64) c.settled
  pub balances : All (λ n. n < 2 ^ 64) c.balances
  pub backlogs : All HasBacklogBytes c.backlogs

pub record HasTailBytes (t : Tail) : Type 0 where
  pub entries : t.entries < 2 ^ 32
  pub messages : t.messages < 2 ^ 32
  pub deps : All (λ n. n < 2 ^ 32) t.deps
  pub hash : AreBytes 32 t.hash

-- all numbers of a node fit their bytes
pub record HasSnapshotBytes (n : NodeTerms) : Type 0 where
  pub hash : AreBytes 32 n.hash
  pub tails : All HasTailBytes n.tails
  pub core : HasCoreBytes n.core

-- a node of this book and hash, which has all that holds of every node, writes these bytes as its snapshot
pub record WritesSnapshot (b : BookTerms) (h bytes : List ℕ) (n : NodeTerms) : Type 0 where
  pub book : n.book ≡ b
  pub hash : n.hash ≡ h
  pub kept : IsRecord n
  pub core : IsCompact n.core
  pub fits : HasSnapshotBytes n
  pub written : bytes ≡ snapshot_bytes n
