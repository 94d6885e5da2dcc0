-- What a snapshot says, before it is checked, and how it is read.
use Rattle.std.specs.Prelude.{◌≡◌, ℕ, ◌+◌, ◌<◌, List, ◌∷◌, ◌++◌, All, length, sum_by, slice_index, slice_index_or, Some}
use Rattle.std.specs.Int.{w32, w64}
use Rattle.at_logs.specs.Prelude.{BookTerms, IsMessageOn, LogTerms, Message, account_on_logs, flat_map, most_targets}
use Rattle.at_logs.specs.Compact.{BacklogState, CompactState, IsBacklog, backlog_of, credit_to}
use Rattle.at_logs.specs.Entry.{AreBytes}
use Rattle.at_logs.specs.Reading.{NodeTerms, no_tail}
use Rattle.at_logs.specs.Readers.{Reader, ◌>>=◌, read_after, read_below, read_items, read_listed, read_made, read_number, read_pair, read_raw, read_target}
use Rattle.at_logs.specs.Snapshot.{HasCoreBytes, HasTailBytes, core_bytes, snapshot_version, tail_bytes}
use Rattle.at_logs.specs.declared.credits.Credit.{Credit}
use Rattle.at_logs.specs.declared.restoring.Front.{Front}
use Rattle.at_logs.specs.declared.tail.Tail.{Tail}

-- the hash of a book, a tail of each log, and what is kept of all logs
pub record SavedTerms : Type 0 where
  pub hash : List ℕ
  pub tails : List Tail
  pub core : CompactState

abbrev pub saved_bytes : SavedTerms → List ℕ
saved_bytes s = snapshot_version ∷ (s.hash ++ (flat_map tail_bytes s.tails ++ core_bytes s.core))

-- a node of a book that keeps this
abbrev pub restored_terms : BookTerms → SavedTerms → NodeTerms
restored_terms b s = record { book = b; hash = s.hash; core = s.core; tails = s.tails }

-- its messages and credits name logs and accounts of a book with so many of each
pub record NamesSaved (logs accounts : ℕ) (l : BacklogState) : Type 0 where
  pub messages : All (IsMessageOn logs accounts) l.messages
  pub targets : All (λ x. x.account < accounts) l.credits
  pub sources : All (λ x. x.log < logs) l.credits
  pub sized : length l.settled_at ≡ logs

-- as many counts, amounts and backlogs as the book has logs and accounts, which name these alone
pub record IsSavedCore (b : LogTerms) (c : CompactState) : Type 0 where
  pub book : c.book ≡ b
  pub counted : length c.validated ≡ b.logs
  pub told_counted : length c.told ≡ b.logs
  pub settled_sized : length c.settled ≡ length b.accounts
  pub balanced : length c.balances ≡ length b.accounts
  pub sized : length c.backlogs ≡ b.logs
  pub names : All (NamesSaved b.logs (length b.accounts)) c.backlogs
  pub fits : HasCoreBytes c

-- a snapshot of a book with such logs, whatever its numbers say
pub record IsSaved (b : LogTerms) (s : SavedTerms) : Type 0 where
  pub hash : AreBytes 32 s.hash
  pub sized : length s.tails ≡ b.logs
  pub counted : All (λ t. length t.deps ≡ b.logs) s.tails
  pub tails : All HasTailBytes s.tails
  pub core : IsSavedCore b s.core

-- ---- reading

-- eight bytes that say how many, and then these
abbrev pub read_many : {A : Type 0} → Reader A → Reader (List A)
read_many one bytes = do
  n ← read_number w64 bytes
  read_items one n.0 n.1

unfoldable pub read_kept_message : ℕ → ℕ → Reader Message
read_kept_message logs accounts = read_made (λ x. record { from = x.0; targets = x.1.0; reference = x.1.1.0; deps = x.1.1.1 })
    (read_pair (read_below accounts) (read_pair (read_listed most_targets (read_target accounts)) (read_pair (read_raw 16) (read_items (read_number w32) logs))))

unfoldable pub read_credit : ℕ → ℕ → Reader Credit
read_credit logs accounts = read_made (λ x. record { account = x.0; log = x.1.0; number = x.1.1.0; amount = x.1.1.1 })
    (read_pair (read_below accounts) (read_pair (read_below logs) (read_pair (read_number w32) (read_number w64))))

unfoldable pub read_backlog : ℕ → ℕ → Reader BacklogState
read_backlog logs accounts = read_made (λ x. record { messages = x.0; credits = x.1.0; settled_at = x.1.1 })
    (read_pair (read_many (read_kept_message logs accounts)) (read_pair (read_many (read_credit logs accounts)) (read_items (read_number w32) logs)))

unfoldable pub read_tail : ℕ → Reader Tail
read_tail logs = read_made (λ x. record { entries = x.0; messages = x.1.0; deps = x.1.1.0; hash = x.1.1.1 })
    (read_pair (read_number w32) (read_pair (read_number w32) (read_pair (read_items (read_number w32) logs) (read_raw 32))))

unfoldable pub read_core : LogTerms → Reader CompactState
read_core b = read_made (λ x. record { book = b; validated = x.0; told = x.1.0; settled = x.1.1.0; balances = x.1.1.1.0; backlogs = x.1.1.1.1 })
    (read_pair (read_items (read_number w32) b.logs) (read_pair (read_items (read_number w32) b.logs)
    (read_pair (read_items (read_number w64) (length b.accounts)) (read_pair (read_items (read_number w64) (length b.accounts))
    (read_items (read_backlog b.logs (length b.accounts)) b.logs)))))

unfoldable pub read_front : Reader Front
read_front = read_after snapshot_version (read_made (λ x. record { hash = x }) (read_raw 32))

unfoldable pub read_saved : LogTerms → Reader SavedTerms
read_saved b = read_made (λ x. record { hash = x.0.hash; tails = x.1.0; core = x.1.1 })
    (read_pair read_front (read_pair (read_items (read_tail b.logs) b.logs) (read_core b)))

-- ---- checking

-- each log's backlog goes as far as its counts say
abbrev pub HasBacklogs : CompactState → Type 0
HasBacklogs c = (p : ℕ) → p < c.book.logs → IsBacklog c p (backlog_of c.backlogs p)

-- each balance that a log debits is what is settled of it and what the log keeps
abbrev pub IsSplit : CompactState → Type 0
IsSplit c = (p account : ℕ) → p < c.book.logs → account < length c.book.accounts → (account_on_logs c.book account).log ≡ Some p
    → slice_index c.settled account + sum_by (credit_to account) (backlog_of c.backlogs p).credits ≡ slice_index c.balances account

-- each log's tail counts the messages that were told and those that are kept
abbrev pub HasTails : SavedTerms → Type 0
HasTails s = (p : ℕ) → p < s.core.book.logs → (slice_index_or s.tails p (no_tail 0)).messages ≡ slice_index s.core.told p + length (backlog_of s.core.backlogs p).messages
