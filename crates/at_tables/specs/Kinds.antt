-- The kind of a call, and how many calls of the files are of a kind.
use Rattle.std.specs.Prelude.{ℕ, ◌==◌, Bool, true, false, ◌&&◌, List, [], map, length, count_by, sum, slice_index_or, if◌then◌else◌}
use Rattle.at_tables.specs.Prelude.{range_with_len, AccountTerms, is_owner_in, is_shared, BookTerms, account_of, first_account, Call, Transfer, Read, Pay}
use Rattle.at_tables.specs.declared.kind.Kind.{Kind}
use Rattle.at_tables.specs.declared.kind.Kind.TheVariants as kinds

-- the kind of a payment from the account
abbrev pub payment_kind : AccountTerms → ℕ → Kind
payment_kind t process = if is_owner_in t process then (if is_shared t then kinds.Agreed else kinds.Alone) else kinds.Refused

-- the kind of a call of the process
abbrev pub kind_of : BookTerms → ℕ → Call → Kind
kind_of b process (Transfer from to amount) = payment_kind (account_of b from) process
kind_of b process (Read account) = kinds.Read
kind_of b process (Pay from targets) = payment_kind (account_of b from) process

-- a payment
abbrev pub is_payment_kind : Kind → Bool
is_payment_kind kinds.Read = false
is_payment_kind kinds.Refused = true
is_payment_kind kinds.Alone = true
is_payment_kind kinds.Agreed = true

-- one that its process may not make
abbrev pub is_refused_kind : Kind → Bool
is_refused_kind kinds.Read = false
is_refused_kind kinds.Refused = true
is_refused_kind kinds.Alone = false
is_refused_kind kinds.Agreed = false

-- one that the one owner makes
abbrev pub is_alone_kind : Kind → Bool
is_alone_kind kinds.Read = false
is_alone_kind kinds.Refused = false
is_alone_kind kinds.Alone = true
is_alone_kind kinds.Agreed = false

-- one that owners have to agree on
abbrev pub is_agreed_kind : Kind → Bool
is_agreed_kind kinds.Read = false
is_agreed_kind kinds.Refused = false
is_agreed_kind kinds.Alone = false
is_agreed_kind kinds.Agreed = true

-- one that an owner makes
abbrev pub is_owner_kind : Kind → Bool
is_owner_kind kinds.Read = false
is_owner_kind kinds.Refused = false
is_owner_kind kinds.Alone = true
is_owner_kind kinds.Agreed = true

-- the process's call is of such a kind
abbrev pub has_kind : (Kind → Bool) → BookTerms → ℕ → Call → Bool
has_kind test b process call = test (kind_of b process call)

-- the process's call is a payment from the account by an owner
abbrev pub is_by_owner_of : ℕ → BookTerms → ℕ → Call → Bool
is_by_owner_of account b process call = is_owner_kind (kind_of b process call) && (first_account call == account)

-- how many calls of the file of a process pass the test
abbrev pub count_in_file : (ℕ → Call → Bool) → List (List Call) → ℕ → ℕ
count_in_file test files process = count_by (test process) (slice_index_or files process [])

-- how many calls of the files of the first processes pass the test
abbrev pub count_first : (ℕ → Call → Bool) → List (List Call) → ℕ → ℕ
count_first test files processes = sum (map (count_in_file test files) (range_with_len 0 processes))

-- how many calls of the files pass the test
abbrev pub count_in : (ℕ → Call → Bool) → List (List Call) → ℕ
count_in test files = count_first test files (length files)
