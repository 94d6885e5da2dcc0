-- The records of a book file are the book with its names, written out.
use Rattle.std.proofs.Common.{◌≡◌, ℕ, ◌+◌, Bool, true, false, ◌⊎◌, inl, inr, ◌==◌, nat_le, List, [], ◌∷◌, ◌++◌, length, Result, Ok, Err, if◌then◌else◌, bytes_eq, codes, decimal, refl, sym, ◌∙◌, ap, subst, append_assoc, append-nil, arith}
use Rattle.at_files.proofs.Prelude.{decimal_digit, bytes_eq-Decides, field_at, AccountTerms, IsBook, BookTerms, NoAccount, NoProcess, TooManyProcesses, most_processes, NameList, AreNamesOf, Fields, field_of, has_shape, NamedBook, book_begun, counted_processes, limits_of, named_processes, processes_of, version_of, with_name, with_process, with_processes, with_account_record, at_line, book_at_end, accounts_from, limits_from, processes_from, book_of_records, account_records, fields_of_processes, records_of_book, Spells, BookWhy, BadBook, and_then}
use Rattle.at_files.specs.declared.book_fault.BookWhy.TheVariants as why
use Rattle.at_files.proofs.Faults.{Err≢Ok}
use Rattle.at_files.proofs.NameLaws.{length-decimals_below}
use Rattle.at_files.proofs.FieldLaws.{length-has_shape, first-has_shape, two_fields, three_fields, field_of-number_at}
use Rattle.at_files.proofs.AccountLaws.{Adds, and_then-leads, with_name-added, with_account_record-adds}
use Rattle.at_files.proofs.BookWalk.{AreNamesOf-limits_of, AreNames-processes_of, HasRooms, counted_processes-AreCounted, limits_of-rooms, version_of-known}

-- a book came only where the record gave a value, and the records after it the book
record Goes {A : Type 0} (r : Result A BookWhy) (more : A → Result NamedBook BadBook) (whole : NamedBook) : Type 0 where
  value : A
  is : r ≡ Ok value
  later : more value ≡ Ok whole

and_then-goes : {A : Type 0} (line : ℕ) (r : Result A BookWhy) (more : A → Result NamedBook BadBook) (whole : NamedBook) → and_then (at_line line r) more ≡ Ok whole → Goes r more whole
and_then-goes line (Ok x) more whole h = record { value = x; is = refl; later = h }
and_then-goes line (Err w) more whole h = absurd (cc)

-- a book with further accounts and their names
abbrev with_all : NamedBook → List (List ℕ) → List AccountTerms → NamedBook
with_all b names ts = record {
  book = record b.book { accounts = b.book.accounts ++ ts };
  names = record b.names { accounts = b.names.accounts ++ names };
}

-- the accounts of these records follow those of the book so far
record Follows (b : NamedBook) (records : List Fields) (whole : NamedBook) : Type 0 where
  names : List (List ℕ)
  accounts : List AccountTerms
  whole_is : whole ≡ with_all b names accounts
  spelled : records ≡ account_records b.names.processes names accounts

Follows-none : (b whole : NamedBook) → book_at_end b ≡ Ok whole → Follows b [] whole
unfolding account_records
Follows-none b whole h = by (length b.book.accounts == 0) h
  where
    by : (none : Bool) → (if none then at_line 4 (Err (why.Book NoAccount)) else Ok b) ≡ Ok whole → Follows b [] whole
    by true is = absurd (cc)
    by false is =
        let same : b ≡ whole = cc in
        record { names = []; accounts = []; whole_is = sym same ∙ rw (append-nil b.book.accounts, append-nil b.names.accounts) refl; spelled = refl }

Follows-cons : (b more whole : NamedBook) (fields : Fields) (records : List Fields) → Adds b fields more → Follows more records whole → Follows b (fields ∷ records) whole
unfolding account_records
Follows-cons b more whole fields records adds follows = record {
  names = adds.name ∷ follows.names;
  accounts = adds.account ∷ follows.accounts;
  whole_is =
      follows.whole_is
      ∙ rw (
        adds.whole_is,
        append_assoc b.book.accounts (adds.account ∷ []) follows.accounts,
        append_assoc b.names.accounts (adds.name ∷ []) follows.names,
      ) refl;
  spelled =
      let later : records ≡ account_records b.names.processes follows.names follows.accounts = follows.spelled ∙ rw adds.whole_is refl in
      rw (adds.spelled, later) refl;
}

accounts_from-follows : (b whole : NamedBook) (records : List Fields) → AreNamesOf b.book b.names → accounts_from b records ≡ Ok whole → Follows b records whole
unfolding accounts_from
accounts_from-follows b whole [] are h = Follows-none b whole h
accounts_from-follows b whole (fields ∷ records) are h =
    let goes = and_then-goes (length b.book.accounts + 4) (with_account_record b fields) (λ more. accounts_from more records) whole h in
    let adds = with_account_record-adds b fields goes.value are goes.is in
    Follows-cons b goes.value whole fields records adds (accounts_from-follows goes.value whole records adds.named goes.later)

version_of-spelled : (fields : Fields) (version : ℕ) → version_of fields ≡ Ok version → fields ≡ codes "book" ∷ decimal version ∷ []
version_of-spelled fields version h =
    by (has_shape (codes "book") 2 fields) (bytes_eq (field_of fields 1) (codes "1")) (bytes_eq (field_of fields 1) (codes "2")) refl refl refl h
  where
    whole : (word : List ℕ) → has_shape (codes "book") 2 fields ≡ true → bytes_eq (field_of fields 1) word ≡ true → fields ≡ codes "book" ∷ word ∷ []
    whole word e f =
        two_fields fields (length-has_shape (codes "book") 2 fields e)
        ∙ rw (first-has_shape (codes "book") 2 fields e, (bytes_eq-Decides (field_of fields 1) word).0 f) refl

    by : (shape one two : Bool) → has_shape (codes "book") 2 fields ≡ shape → bytes_eq (field_of fields 1) (codes "1") ≡ one → bytes_eq (field_of fields 1) (codes "2") ≡ two
        → (if shape then (if one then Ok 1 else if two then Ok 2 else Err why.Version) else Err why.Shape) ≡ Ok version → fields ≡ codes "book" ∷ decimal version ∷ []
    by false one two e f g is = absurd (Err≢Ok _ _ is)
    by true true two e f g is = let same : 1 ≡ version = cc in rw (← same, decimal_digit 1 (omega arith)) (whole (codes "1") e f)
    by true false true e f g is = let same : 2 ≡ version = cc in rw (← same, decimal_digit 2 (omega arith)) (whole (codes "2") e g)
    by true false false e f g is = absurd (Err≢Ok _ _ is)

-- processes that were named are those of the fields
with_process-spelled : (names more : List (List ℕ)) (name : List ℕ) → with_process names name ≡ Ok more → more ≡ names ++ name ∷ []
with_process-spelled names more name h = by (nat_le most_processes (length names)) h
  where
    by : (full : Bool) → (if full then Err (why.Book TooManyProcesses) else with_name names name) ≡ Ok more → more ≡ names ++ name ∷ []
    by true is = absurd (cc)
    by false is = (with_name-added names more name is).more_is

with_processes-spelled : (names : List (List ℕ)) (fields : Fields) (more : List (List ℕ)) → with_processes names fields ≡ Ok more → more ≡ names ++ fields
unfolding with_processes
with_processes-spelled names [] more h = let same : names ≡ more = cc in sym same ∙ sym (append-nil names)
with_processes-spelled names (name ∷ rest) more h =
    let leads = and_then-leads (with_process names name) (λ xs. with_processes xs rest) more h in
    with_processes-spelled leads.value rest more leads.later
    ∙ ap (λ (xs : List (List ℕ)). xs ++ rest) (with_process-spelled names leads.value name leads.is)
    ∙ append_assoc names (name ∷ []) rest

named_processes-spelled : (fields : Fields) (names : List (List ℕ)) → named_processes fields ≡ Ok names → fields ≡ codes "processes" ∷ names
unfolding field_at
named_processes-spelled [] names h = absurd (cc)
named_processes-spelled (first ∷ rest) names h = by (bytes_eq first (codes "processes")) (length (first ∷ rest) == 1) refl h
  where
    by : (word none : Bool) → bytes_eq first (codes "processes") ≡ word
        → (if word then (if none then Err (why.Book NoProcess) else with_processes [] rest) else Err why.Shape) ≡ Ok names → first ∷ rest ≡ codes "processes" ∷ names
    by false none e is = absurd (cc)
    by true true e is = absurd (cc)
    by true false e is = rw ((bytes_eq-Decides first (codes "processes")).0 e, with_processes-spelled [] rest names is) refl

-- the second record, of a version and its processes
abbrev second_record : ℕ → List (List ℕ) → Fields
second_record version processes = fields_of_processes (record { version = version; processes = processes; accounts = [] })

counted_processes-spelled : (fields : Fields) (names : List (List ℕ)) → counted_processes fields ≡ Ok names → fields ≡ codes "processes" ∷ decimal (length names) ∷ []
counted_processes-spelled fields names h =
    let counted = counted_processes-AreCounted fields names h in
    let count : length names ≡ counted.count = ap length counted.names_are ∙ length-decimals_below counted.count in
    two_fields fields (length-has_shape (codes "processes") 2 fields counted.shape)
    ∙ rw (count, first-has_shape (codes "processes") 2 fields counted.shape, field_of-number_at fields 1 counted.count counted.count_is) refl

processes_of-spelled : (version : ℕ) (fields : Fields) (names : List (List ℕ)) → (version ≡ 1) ⊎ (version ≡ 2) → processes_of version fields ≡ Ok names
    → fields ≡ second_record version names
processes_of-spelled version fields names (inr second) h = rw second (named_processes-spelled fields names (rw second at h))
processes_of-spelled version fields names (inl first) h = rw first (counted_processes-spelled fields names (rw first at h))

limits_of-spelled : (version : ℕ) (processes : List (List ℕ)) (fields : Fields) (b : NamedBook) (rooms : HasRooms version processes fields b)
    → fields ≡ codes "limits" ∷ decimal rooms.own_room ∷ decimal rooms.request_room ∷ []
limits_of-spelled version processes fields b rooms =
    three_fields fields (length-has_shape (codes "limits") 3 fields rooms.shape)
    ∙ rw (
      first-has_shape (codes "limits") 3 fields rooms.shape,
      field_of-number_at fields 1 rooms.own_room rooms.own_is,
      field_of-number_at fields 2 rooms.request_room rooms.request_is,
    ) refl

-- the records of a whole file, put together
whole_records : (version own_room request_room : ℕ) (processes names : List (List ℕ)) (accounts : List AccountTerms) (whole : NamedBook) (first second third : Fields) (records : List Fields)
    → first ≡ codes "book" ∷ decimal version ∷ [] → second ≡ second_record version processes → third ≡ codes "limits" ∷ decimal own_room ∷ decimal request_room ∷ []
    → records ≡ account_records processes names accounts → whole ≡ with_all (book_begun version processes own_room request_room) names accounts
    → first ∷ second ∷ third ∷ records ≡ records_of_book whole.book whole.names
whole_records version own_room request_room processes names accounts whole first second third records is next last later all = rw (is, next, last, later, all) refl

pub book_of_records-spelled : (records : List Fields) (b : NamedBook) → book_of_records records ≡ Ok b → records ≡ records_of_book b.book b.names
book_of_records-spelled [] b h = absurd (Err≢Ok _ _ h)
book_of_records-spelled (first ∷ []) b h =
    absurd (let goes = and_then-goes 1 (version_of first) (λ version. processes_from version []) b h in Err≢Ok _ _ goes.later)
book_of_records-spelled (first ∷ second ∷ []) b h =
    absurd (let goes = and_then-goes 1 (version_of first) (λ version. processes_from version (second ∷ [])) b h in
    let next = and_then-goes 2 (processes_of goes.value second) (λ processes. limits_from goes.value processes []) b goes.later in
    Err≢Ok _ _ next.later)
book_of_records-spelled (first ∷ second ∷ third ∷ records) b h =
    let version = and_then-goes 1 (version_of first) (λ version. processes_from version (second ∷ third ∷ records)) b h in
    let known = version_of-known first version.value version.is in
    let processes = and_then-goes 2 (processes_of version.value second) (λ processes. limits_from version.value processes (third ∷ records)) b version.later in
    let limits = and_then-goes 3 (limits_of version.value processes.value third) (λ x. accounts_from x records) b processes.later in
    let are = AreNamesOf-limits_of version.value processes.value third limits.value (AreNames-processes_of version.value second processes.value known processes.is) limits.is in
    let rooms = limits_of-rooms version.value processes.value third limits.value limits.is in
    let P : NamedBook → Type 0 = λ x. Follows x records b in
    let follows = subst P rooms.book_is (accounts_from-follows limits.value b records are limits.later) in
    whole_records version.value rooms.own_room rooms.request_room processes.value follows.names follows.accounts b first second third records
    (version_of-spelled first version.value version.is) (processes_of-spelled version.value second processes.value known processes.is)
    (limits_of-spelled version.value processes.value third limits.value rooms) follows.spelled follows.whole_is

pub Spells-book_of_records : (records : List Fields) (b : BookTerms) (names : NameList) → book_of_records records ≡ Ok (record { book = b; names = names }) → IsBook b → AreNamesOf b names
    → Spells records b names
Spells-book_of_records records b names h book are = record {
  book = book;
  spelled = book_of_records-spelled records (record { book = b; names = names }) h;
  named = are;
}
