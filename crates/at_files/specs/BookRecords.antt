-- What each record of a book file gives, or the cause of its fault.
use Rattle.std.specs.Prelude.{ℕ, ◌+◌, ◌==◌, List, [], ◌∷◌, ◌++◌, length, drop, bytes_eq, codes, nat_le, nat_lt, Option, Some, None, Result, Ok, Err, if◌then◌else◌}
use Rattle.at_files.specs.Prelude.{slice_split, number_of, AccountTerms, BookTerms, limits_fault, account_fault, terms_with, with_account, book_without_accounts, BookError, NoProcess, TooManyProcesses, TooManyAccounts, OwnersNotRising, TooManyOwners, most_accounts, most_owners, most_processes}
use Rattle.at_files.specs.Names.{NameList, decimals_below, has_name, is_name, position_of}
use Rattle.at_files.specs.Records.{Fields, before, field_of, number_at, has_shape}
use Rattle.at_files.specs.Results.{and_then}
use Rattle.at_files.specs.declared.book_fault.BookWhy.{BookWhy}
use Rattle.at_files.specs.declared.book_fault.BookWhy.TheVariants as why

-- a book, or what there is of it so far, with its names
pub record NamedBook : Type 0 where
  pub book : BookTerms
  pub names : NameList

-- a value, unless the book that it belongs to would break a limit
abbrev pub within_limits : {A : Type 0} → Option BookError → A → Result A BookWhy
within_limits None x = Ok x
within_limits (Some e) x = Err (why.Book e)

-- record 1: the version
abbrev pub version_of : Fields → Result ℕ BookWhy
version_of fields =
    if has_shape (codes "book") 2 fields then (if bytes_eq (field_of fields 1) (codes "1") then Ok 1
    else if bytes_eq (field_of fields 1) (codes "2") then Ok 2 else Err why.Version)
    else Err why.Shape

-- the names so far with one more, which has the form of a name and is new
abbrev pub with_name : List (List ℕ) → List ℕ → Result (List (List ℕ)) BookWhy
with_name names name =
    if is_name name then (if has_name names name then Err why.NameTwice else Ok (names ++ name ∷ [])) else Err why.Name

-- one more process, of which a book has sixteen at most
abbrev pub with_process : List (List ℕ) → List ℕ → Result (List (List ℕ)) BookWhy
with_process names name = if nat_le most_processes (length names) then Err (why.Book TooManyProcesses) else with_name names name

-- the processes so far, and those that these fields name from left to right
unfoldable pub with_processes : List (List ℕ) → Fields → Result (List (List ℕ)) BookWhy
with_processes names [] = Ok names
with_processes names (name ∷ rest) = and_then (with_process names name) (λ more. with_processes more rest)

-- record 2 of version 2, which names the processes
abbrev pub named_processes : Fields → Result (List (List ℕ)) BookWhy
named_processes fields =
    if bytes_eq (field_of fields 0) (codes "processes") then (if length fields == 1 then Err (why.Book NoProcess) else with_processes [] (drop 1 fields))
    else Err why.Shape

-- a number of processes; the rooms come later, and stand at 1 till then
abbrev pub process_count : Option ℕ → Result ℕ BookWhy
process_count None = Err why.Number
process_count (Some n) = within_limits (limits_fault n 1 1) n

-- record 2 of version 1, which counts the processes: their numbers are their names
abbrev pub counted_processes : Fields → Result (List (List ℕ)) BookWhy
counted_processes fields =
    if has_shape (codes "processes") 2 fields then and_then (process_count (number_at fields 1)) (λ count. Ok (decimals_below count))
    else Err why.Shape

-- record 2: the names of the processes
abbrev pub processes_of : ℕ → Fields → Result (List (List ℕ)) BookWhy
processes_of version fields = if version == 2 then named_processes fields else counted_processes fields

-- a book of these processes with these rooms and no account yet
abbrev pub book_begun : ℕ → List (List ℕ) → ℕ → ℕ → NamedBook
book_begun version processes own_room request_room = record {
  book = book_without_accounts (length processes) own_room request_room;
  names = record { version = version; processes = processes; accounts = [] };
}

abbrev pub book_with_rooms : ℕ → List (List ℕ) → Option ℕ → Option ℕ → Result NamedBook BookWhy
book_with_rooms version processes (Some own_room) (Some request_room) =
    within_limits (limits_fault (length processes) own_room request_room) (book_begun version processes own_room request_room)
book_with_rooms version processes _ _ = Err why.Number

-- record 3
abbrev pub limits_of : ℕ → List (List ℕ) → Fields → Result NamedBook BookWhy
limits_of version processes fields =
    if has_shape (codes "limits") 3 fields then book_with_rooms version processes (number_at fields 1) (number_at fields 2) else Err why.Shape

-- an owners field, split at every space; an empty one has no piece
abbrev pub pieces_of : List ℕ → List (List ℕ)
pieces_of text = if length text == 0 then [] else slice_split (λ byte. byte == 32) text

-- the numbers that the pieces are, if each is one
unfoldable pub numbers_of : List (List ℕ) → Option (List ℕ)
numbers_of [] = Some []
numbers_of (piece ∷ pieces) = before (number_of piece) (numbers_of pieces)

-- an account of version 1, which has the next number
abbrev pub numbered_terms : ℕ → Option ℕ → Option ℕ → Option (List ℕ) → Result AccountTerms BookWhy
numbered_terms account (Some id) (Some opening) (Some owners) = if id == account then Ok (terms_with opening owners) else Err why.AccountOrder
numbered_terms account _ _ _ = Err why.Number

-- the process after `count` owners of the account, where the next one has to be at least `least`
abbrev pub owner_known : ℕ → ℕ → ℕ → Option ℕ → Result ℕ BookWhy
owner_known account count least None = Err why.UnknownOwner
owner_known account count least (Some owner) =
    if nat_lt owner least then Err (why.Book (OwnersNotRising account))
    else if nat_le most_owners count then Err (why.Book (TooManyOwners account))
    else Ok owner

-- the owners that the pieces name, from left to right, after `count` others
unfoldable pub owners_named : List (List ℕ) → ℕ → ℕ → ℕ → List (List ℕ) → Result (List ℕ) BookWhy
owners_named processes account count least [] = Ok []
owners_named processes account count least (piece ∷ pieces) =
    and_then (owner_known account count least (position_of processes piece))
    (λ owner. and_then (owners_named processes account (count + 1) (owner + 1) pieces) (λ owners. Ok (owner ∷ owners)))

-- an account of version 2 whose name is good
abbrev pub named_terms : List (List ℕ) → ℕ → Option ℕ → List ℕ → Result AccountTerms BookWhy
named_terms processes account None text = Err why.Number
named_terms processes account (Some opening) text =
    and_then (owners_named processes account 0 0 (pieces_of text)) (λ owners. Ok (terms_with opening owners))

-- the book so far with one more account, of this name
abbrev pub with_named : NamedBook → List ℕ → AccountTerms → NamedBook
with_named b name t = record { book = with_account b.book t; names = record b.names { accounts = b.names.accounts ++ name ∷ [] } }

-- the same, unless a limit is broken
abbrev pub with_terms : NamedBook → List ℕ → AccountTerms → Result NamedBook BookWhy
with_terms b name t = within_limits (account_fault b.book t) (with_named b name t)

-- an account's record in version 1
abbrev pub with_plain_record : NamedBook → Fields → Result NamedBook BookWhy
with_plain_record b fields =
    and_then (numbered_terms (length b.book.accounts) (number_at fields 1) (number_at fields 2) (numbers_of (pieces_of (field_of fields 3))))
    (with_terms b (field_of fields 1))

-- an account's record in version 2
abbrev pub with_named_record : NamedBook → Fields → Result NamedBook BookWhy
with_named_record b fields =
    and_then (with_name b.names.accounts (field_of fields 1))
    (λ names. and_then (named_terms b.names.processes (length b.book.accounts) (number_at fields 2) (field_of fields 3)) (with_terms b (field_of fields 1)))

-- a record from the fourth on: the book so far with the account that it adds
abbrev pub with_account_record : NamedBook → Fields → Result NamedBook BookWhy
with_account_record b fields =
    if nat_le most_accounts (length b.book.accounts) then Err (why.Book TooManyAccounts)
    else if has_shape (codes "account") 4 fields then (if b.names.version == 2 then with_named_record b fields else with_plain_record b fields)
    else Err why.Shape
