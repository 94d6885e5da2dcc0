-- The book that the records of a file spell, or the first fault.
use Rattle.std.specs.Prelude.{◌≡◌, ℕ, ◌+◌, ◌==◌, List, [], ◌∷◌, length, map, codes, decimal, slice_index_or, Result, Ok, Err, if◌then◌else◌}
use Rattle.at_files.specs.Prelude.{join_with_byte, AccountTerms, BookTerms, IsBook, NoAccount}
use Rattle.at_files.specs.Names.{NameList, AreNamesOf}
use Rattle.at_files.specs.Records.{Fields}
use Rattle.at_files.specs.Results.{and_then}
use Rattle.at_files.specs.BookRecords.{NamedBook, limits_of, processes_of, version_of, with_account_record}
use Rattle.at_files.specs.declared.book_fault.BookWhy.{BookWhy}
use Rattle.at_files.specs.declared.book_fault.BookWhy.TheVariants as why
use Rattle.at_files.specs.declared.book_fault.BadBook.{BadBook}

-- what a record of this line gives, or the line with the cause of its fault
abbrev pub at_line : {A : Type 0} → ℕ → Result A BookWhy → Result A BadBook
at_line line (Ok x) = Ok x
at_line line (Err w) = Err (record { line = line; why = w })

-- the end of the records: a book has an account
abbrev pub book_at_end : NamedBook → Result NamedBook BadBook
book_at_end b = if length b.book.accounts == 0 then at_line 4 (Err (why.Book NoAccount)) else Ok b

-- the accounts of these records, added to the book so far; account i stands in record i + 4
unfoldable pub accounts_from : NamedBook → List Fields → Result NamedBook BadBook
accounts_from b [] = book_at_end b
accounts_from b (fields ∷ records) =
    and_then (at_line (length b.book.accounts + 4) (with_account_record b fields)) (λ more. accounts_from more records)

-- from record 3 on
abbrev pub limits_from : ℕ → List (List ℕ) → List Fields → Result NamedBook BadBook
limits_from version processes [] = at_line 3 (Err why.Shape)
limits_from version processes (fields ∷ records) = and_then (at_line 3 (limits_of version processes fields)) (λ b. accounts_from b records)

-- from record 2 on
abbrev pub processes_from : ℕ → List Fields → Result NamedBook BadBook
processes_from version [] = at_line 2 (Err why.Shape)
processes_from version (fields ∷ records) = and_then (at_line 2 (processes_of version fields)) (λ processes. limits_from version processes records)

-- the book of a file's records with its names, or the first fault
abbrev pub book_of_records : List Fields → Result NamedBook BadBook
book_of_records [] = at_line 1 (Err why.Shape)
book_of_records (fields ∷ records) = and_then (at_line 1 (version_of fields)) (λ version. processes_from version records)

-- record 2: version 2 names the processes, and version 1 counts them
abbrev pub fields_of_processes : NameList → Fields
fields_of_processes names =
    codes "processes" ∷ (if names.version == 2 then names.processes else decimal (length names.processes) ∷ [])

-- the names of the owners, parted by one space each
abbrev pub owners_text : List (List ℕ) → List ℕ → List ℕ
owners_text processes owners = join_with_byte 32 (map (λ owner. slice_index_or processes owner []) owners)

-- the record of the account of this name
abbrev pub fields_of_account : List (List ℕ) → List ℕ → AccountTerms → Fields
fields_of_account processes name t = codes "account" ∷ name ∷ decimal t.opening ∷ owners_text processes t.owners ∷ []

-- the records of accounts, each with its name
unfoldable pub account_records : List (List ℕ) → List (List ℕ) → List AccountTerms → List Fields
account_records processes (name ∷ names) (t ∷ ts) = fields_of_account processes name t ∷ account_records processes names ts
account_records processes _ _ = []

-- the records of a book with its names, written out
abbrev pub records_of_book : BookTerms → NameList → List Fields
records_of_book b names =
    (codes "book" ∷ decimal names.version ∷ [])
    ∷ fields_of_processes names
    ∷ (codes "limits" ∷ decimal b.own_room ∷ decimal b.request_room ∷ [])
    ∷ account_records names.processes names.accounts b.accounts

-- the records are those of a book within its limits, and these are its names
pub record Spells (records : List Fields) (b : BookTerms) (names : NameList) : Type 0 where
  pub book : IsBook b
  pub spelled : records ≡ records_of_book b names
  pub named : AreNamesOf b names
