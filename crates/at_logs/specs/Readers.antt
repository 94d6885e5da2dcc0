-- Reading from left to right: a reader gives a value and the bytes after it, or nothing.
use Rattle.std.specs.Prelude.{ℕ, zero, suc, ◌==◌, List, [], ◌∷◌, length, take, drop, Option, Some, None, nat_lt, if◌then◌else◌}
use Rattle.std.specs.Int.{Width, w32, w64, byte_len, from_be_bytes}
use Rattle.at_logs.specs.Prelude.{TargetPair, most_targets}
use Rattle.at_logs.specs.Entry.{EntryTerms, entry_version, most_in_entry}
use Rattle.at_logs.specs.declared.entry.EntryMessage.{EntryMessage}
use Rattle.at_logs.specs.declared.reading.Head.{Head}

-- what reads a value from the front of some bytes, and answers it with the bytes that are left, or nothing
abbrev pub Reader : Type 0 → Type 0
Reader A = List ℕ → Option (A × List ℕ)

infixl 10 ◌>>=◌
abbrev pub ◌>>=◌ : {A B : Type 0} → Option A → (A → Option B) → Option B
None >>= f = None
(Some x) >>= f = f x

abbrev pub read_byte : Reader ℕ
read_byte [] = None
read_byte (b ∷ rest) = Some (b, rest)

abbrev pub read_number : Width → Reader ℕ
read_number w bytes = if nat_lt (length bytes) (byte_len w) then None else Some (from_be_bytes w (take (byte_len w) bytes), drop (byte_len w) bytes)

-- so many bytes
abbrev pub read_raw : ℕ → Reader (List ℕ)
read_raw n bytes = if nat_lt (length bytes) n then None else Some (take n bytes, drop n bytes)

-- one, and then the other
abbrev pub read_pair : {A B : Type 0} → Reader A → Reader B → Reader (A × B)
read_pair first second bytes = do
  a ← first bytes
  b ← second a.1
  Some ((a.0, b.0), b.1)

-- what is made of a value
abbrev pub read_made : {A B : Type 0} → (A → B) → Reader A → Reader B
read_made make one bytes = do
  a ← one bytes
  Some (make a.0, a.1)

-- a number below this one
abbrev pub read_below : ℕ → Reader ℕ
read_below limit bytes = do
  n ← read_number w32 bytes
  if nat_lt n.0 limit then Some n else None

-- so many, one after the other
unfoldable pub read_items : {A : Type 0} → Reader A → ℕ → Reader (List A)
read_items one zero bytes = Some ([], bytes)
read_items one (suc n) bytes = do
  first ← one bytes
  others ← read_items one n first.1
  Some (first.0 ∷ others.0, others.1)

-- a byte that says how many, from one to this many, and then these
abbrev pub read_listed : {A : Type 0} → ℕ → Reader A → Reader (List A)
read_listed most one bytes = do
  n ← read_byte bytes
  if n.0 == 0 then None else if nat_lt most n.0 then None else read_items one n.0 n.1

-- behind this byte
abbrev pub read_after : {A : Type 0} → ℕ → Reader A → Reader A
read_after byte one bytes = do
  b ← read_byte bytes
  if b.0 == byte then one b.1 else None

-- a value that all of the bytes are
abbrev pub read_whole : {A : Type 0} → Reader A → List ℕ → Option A
read_whole one bytes = do
  a ← one bytes
  if length a.1 == 0 then Some a.0 else None

unfoldable pub read_target : ℕ → Reader TargetPair
read_target accounts = read_pair (read_below accounts) (read_number w64)

unfoldable pub read_message : ℕ → Reader EntryMessage
read_message accounts = read_made (λ x. record { from = x.0; targets = x.1.0; reference = x.1.1 })
    (read_pair (read_below accounts) (read_pair (read_listed most_targets (read_target accounts)) (read_raw 16)))

unfoldable pub read_head : ℕ → ℕ → Reader Head
read_head logs processes = read_after entry_version (read_made (λ x. record { writer = x.0; deps = x.1.0; book = x.1.1.0; before = x.1.1.1 })
    (read_pair (read_below processes) (read_pair (read_items (read_number w32) logs) (read_pair (read_raw 32) (read_raw 32)))))

unfoldable pub read_entry : ℕ → ℕ → ℕ → Reader EntryTerms
read_entry logs accounts processes =
    read_made (λ x. record { writer = x.0.writer; deps = x.0.deps; book = x.0.book; before = x.0.before; messages = x.1 })
    (read_pair (read_head logs processes) (read_listed most_in_entry (read_message accounts)))
