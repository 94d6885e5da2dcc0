-- The walk over the records of a book file.
use Rattle.std.proofs.Common.{◌≡◌, ℕ, ◌+◌, ◌≤◌, Bool, true, false, ◌⊎◌, inl, inr, ◌==◌, nat_le, nat_lt, List, [], ◌∷◌, length, drop, Option, Some, None, Result, Ok, Err, bytes_eq, codes, if◌then◌else◌, refl, sym, ◌∙◌, ap, subst, arith}
use Rattle.at_files.proofs.Prelude.{nat_tests, length_push, BookTerms, IsBook, limits_fault, NoProcess, TooManyAccounts, TooManyProcesses, most_accounts, most_processes, AreNames, AreNamesOf, NameList, decimals_below, Fields, field_of, number_at, has_shape, NamedBook, book_begun, book_with_rooms, counted_processes, limits_of, named_processes, process_count, processes_of, version_of, with_name, with_process, with_processes, with_account_record, at_line, accounts_from, book_at_end, BadBook, and_then}
use Rattle.at_files.specs.declared.book_fault.BookWhy.TheVariants as why
use Rattle.at_files.proofs.AccountLaws.{AreNames-name, and_then-leads, with_name-added, with_account_record-adds, within_limits-ok}
use Rattle.at_files.proofs.NameLaws.{AreNames-decimals_below, AreNames-none, known_version}

-- the version of a book is one of two
pub version_of-known : (fields : Fields) (version : ℕ) → version_of fields ≡ Ok version → (version ≡ 1) ⊎ (version ≡ 2)
version_of-known fields version h = by (has_shape (codes "book") 2 fields) (bytes_eq (field_of fields 1) (codes "1")) (bytes_eq (field_of fields 1) (codes "2")) h
  where
    by : (shape one two : Bool) → (if shape then (if one then Ok 1 else if two then Ok 2 else Err why.Version) else Err why.Shape) ≡ Ok version → (version ≡ 1) ⊎ (version ≡ 2)
    by false one two is = absurd (cc)
    by true true two is = inl (cc)
    by true false true is = inr (cc)
    by true false false is = absurd (cc)

-- one process more
AreNames-with_process : (names more : List (List ℕ)) (name : List ℕ) → AreNames 2 names → with_process names name ≡ Ok more → AreNames 2 more
AreNames-with_process names more name are h = by (nat_le most_processes (length names)) h
  where
    by : (full : Bool) → (if full then Err (why.Book TooManyProcesses) else with_name names name) ≡ Ok more → AreNames 2 more
    by true is = absurd (cc)
    by false is =
        let added = with_name-added names more name is in
        subst (AreNames 2) (sym added.more_is) (AreNames-name 2 names name are refl added.form added.new)

AreNames-with_processes : (names : List (List ℕ)) (fields : Fields) (more : List (List ℕ)) → AreNames 2 names → with_processes names fields ≡ Ok more → AreNames 2 more
unfolding with_processes
AreNames-with_processes names [] more are h = let same : names ≡ more = cc in subst (AreNames 2) same are
AreNames-with_processes names (name ∷ rest) more are h =
    let leads = and_then-leads (with_process names name) (λ xs. with_processes xs rest) more h in
    AreNames-with_processes leads.value rest more (AreNames-with_process names leads.value name are leads.is) leads.later

AreNames-named_processes : (fields : Fields) (names : List (List ℕ)) → named_processes fields ≡ Ok names → AreNames 2 names
AreNames-named_processes fields names h = by (bytes_eq (field_of fields 0) (codes "processes")) (length fields == 1) h
  where
    by : (word none : Bool) → (if word then (if none then Err (why.Book NoProcess) else with_processes [] (drop 1 fields)) else Err why.Shape) ≡ Ok names → AreNames 2 names
    by false none is = absurd (cc)
    by true true is = absurd (cc)
    by true false is = AreNames-with_processes [] (drop 1 fields) names (AreNames-none 2 (inr refl)) is

-- a number of processes is small
process_count-few : (processes : Option ℕ) (count : ℕ) → process_count processes ≡ Ok count → (processes ≡ Some count) × (count ≤ most_processes)
process_count-few None count h = absurd (cc)
process_count-few (Some n) count h =
    let both = within_limits-ok (limits_fault n 1 1) n count h in
    (ap Some both.1, rw (← both.1) (by (n == 0) (nat_lt most_processes n) refl both.0))
  where
    by : (none many : Bool) → nat_lt most_processes n ≡ many → (if none then Some NoProcess else if many then Some TooManyProcesses else None) ≡ None → n ≤ most_processes
    by true many e is = absurd (cc)
    by false true e is = absurd (cc)
    by false false e is = grind (arith, nat_tests)

-- counted processes
pub record AreCounted (fields : Fields) (names : List (List ℕ)) : Type 0 where
  pub count : ℕ
  pub shape : has_shape (codes "processes") 2 fields ≡ true
  pub count_is : number_at fields 1 ≡ Some count
  pub few : count ≤ most_processes
  pub names_are : names ≡ decimals_below count

pub counted_processes-AreCounted : (fields : Fields) (names : List (List ℕ)) → counted_processes fields ≡ Ok names → AreCounted fields names
counted_processes-AreCounted fields names h = by (has_shape (codes "processes") 2 fields) refl h
  where
    by : (shape : Bool) → has_shape (codes "processes") 2 fields ≡ shape
        → (if shape then and_then (process_count (number_at fields 1)) (λ count. Ok (decimals_below count)) else Err why.Shape) ≡ Ok names → AreCounted fields names
    by false e is = absurd (cc)
    by true e is =
        let leads = and_then-leads (process_count (number_at fields 1)) (λ count. Ok (decimals_below count)) names is in
        let count = process_count-few (number_at fields 1) leads.value leads.is in
        record { count = leads.value; shape = e; count_is = count.0; few = count.1; names_are = let same : decimals_below leads.value ≡ names = let later = leads.later in cc in sym same }

pub AreNames-processes_of : (version : ℕ) (fields : Fields) (names : List (List ℕ)) → (version ≡ 1) ⊎ (version ≡ 2) → processes_of version fields ≡ Ok names → AreNames version names
AreNames-processes_of version fields names (inl first) h =
    let counted = counted_processes-AreCounted fields names (rw first at h) in
    rw (first, counted.names_are) (AreNames-decimals_below counted.count (let few = counted.few in omega arith))
AreNames-processes_of version fields names (inr second) h = rw second (AreNames-named_processes fields names (rw second at h))

-- record 3 gives a book that has its rooms
pub record HasRooms (version : ℕ) (processes : List (List ℕ)) (fields : Fields) (b : NamedBook) : Type 0 where
  pub own_room : ℕ
  pub request_room : ℕ
  pub shape : has_shape (codes "limits") 3 fields ≡ true
  pub own_is : number_at fields 1 ≡ Some own_room
  pub request_is : number_at fields 2 ≡ Some request_room
  pub book_is : b ≡ book_begun version processes own_room request_room

pub limits_of-rooms : (version : ℕ) (processes : List (List ℕ)) (fields : Fields) (b : NamedBook) → limits_of version processes fields ≡ Ok b → HasRooms version processes fields b
limits_of-rooms version processes fields b h = by (has_shape (codes "limits") 3 fields) (number_at fields 1) (number_at fields 2) refl refl refl h
  where
    by : (shape : Bool) (own request : Option ℕ) → has_shape (codes "limits") 3 fields ≡ shape → number_at fields 1 ≡ own → number_at fields 2 ≡ request
        → (if shape then book_with_rooms version processes own request else Err why.Shape) ≡ Ok b → HasRooms version processes fields b
    by false own request e f g is = absurd (cc)
    by true None request e f g is = absurd (cc)
    by true (Some own) None e f g is = absurd (cc)
    by true (Some own) (Some request) e f g is = record {
      own_room = own;
      request_room = request;
      shape = e;
      own_is = f;
      request_is = g;
      book_is = sym (within_limits-ok (limits_fault (length processes) own request) (book_begun version processes own request) b is).1;
    }

-- a book that has an account is ended as it is
pub book_at_end-finished : (b : NamedBook) (book : BookTerms) (names : NameList) → book ≡ b.book → names ≡ b.names → IsBook book
    → book_at_end b ≡ Ok (record { book = book; names = names })
book_at_end-finished b book names same named checked =
    let some : 1 ≤ length b.book.accounts = rw same at checked.some_account in
    let test : (length b.book.accounts == 0) ≡ false = grind (arith, nat_tests) in
    rw (same, named, test) refl

-- and no account
pub limits_of-empty : (version : ℕ) (processes : List (List ℕ)) (fields : Fields) (b : NamedBook) → limits_of version processes fields ≡ Ok b → b.book.accounts ≡ []
limits_of-empty version processes fields b h = ap (λ (x : NamedBook). x.book.accounts) (limits_of-rooms version processes fields b h).book_is

pub AreNamesOf-limits_of : (version : ℕ) (processes : List (List ℕ)) (fields : Fields) (b : NamedBook) → AreNames version processes → limits_of version processes fields ≡ Ok b
    → AreNamesOf b.book b.names
AreNamesOf-limits_of version processes fields b are h =
    let rooms = limits_of-rooms version processes fields b h in
    let P : NamedBook → Type 0 = λ x. AreNamesOf x.book x.names in
    subst P (sym rooms.book_is) (record {
      processes = refl;
      accounts = refl;
      formed = record { processes = are; accounts = AreNames-none version (known_version version processes are); few_accounts = omega arith };
    })

-- the records give what those from here on give, beside the book so far
pub record Added (whole : Result NamedBook BadBook) (b : NamedBook) (account : ℕ) (records : List Fields) : Type 0 where
  pub walk : whole ≡ accounts_from b records
  pub count : account ≡ length b.book.accounts
  pub named : AreNamesOf b.book b.names

-- a record was read, or there was none
abbrev pub IsNext : List Fields → Bool → Fields → List Fields → Type 0
IsNext records found fields rest = records ≡ (if found then fields ∷ rest else [])

accounts_from-fields : (b : NamedBook) (fields : Fields) (records : List Fields)
    → accounts_from b (fields ∷ records) ≡ and_then (at_line (length b.book.accounts + 4) (with_account_record b fields)) (λ more. accounts_from more records)
unfolding accounts_from
accounts_from-fields b fields records = refl

-- an added account makes the book longer by one
length-with_account_record : (b more : NamedBook) (fields : Fields) → AreNamesOf b.book b.names → with_account_record b fields ≡ Ok more → length more.book.accounts ≡ length b.book.accounts + 1
length-with_account_record b more fields are h =
    let adds = with_account_record-adds b fields more are h in
    rw adds.whole_is (length_push b.book.accounts adds.account)

pub Added-start : (b : NamedBook) (records : List Fields) → b.book.accounts ≡ [] → AreNamesOf b.book b.names → Added (accounts_from b records) b 0 records
Added-start b records none are = record { walk = refl; count = rw none refl; named = are }

pub Added-more : (whole : Result NamedBook BadBook) (b : NamedBook) (account : ℕ) (records : List Fields) (found : Bool) (fields : Fields) (rest : List Fields) (more : NamedBook)
    → Added whole b account records → IsNext records found fields rest → found ≡ true → with_account_record b fields ≡ Ok more → AreNamesOf more.book more.names → Added whole more (account + 1) rest
Added-more whole b account records found fields rest more added next some is are =
    let here : records ≡ fields ∷ rest = next ∙ rw some refl in
    record {
      walk = added.walk ∙ rw (here, accounts_from-fields b fields rest, is) refl;
      count = let longer = length-with_account_record b more fields added.named is in let at = added.count in omega arith;
      named = are;
    }

pub Added-bad : (whole : Result NamedBook BadBook) (b : NamedBook) (account : ℕ) (records : List Fields) (found : Bool) (fields : Fields) (rest : List Fields) (bad : BadBook)
    → Added whole b account records → IsNext records found fields rest → found ≡ true → at_line (account + 4) (with_account_record b fields) ≡ Err bad → whole ≡ Err bad
Added-bad whole b account records found fields rest bad added next some is =
    let here : records ≡ fields ∷ rest = next ∙ rw some refl in
    added.walk ∙ rw (here, accounts_from-fields b fields rest, rw added.count at is) refl

pub Added-end : (whole : Result NamedBook BadBook) (b : NamedBook) (account : ℕ) (records : List Fields) (found : Bool) (fields : Fields) (rest : List Fields)
    → Added whole b account records → IsNext records found fields rest → found ≡ false → whole ≡ book_at_end b
unfolding accounts_from
Added-end whole b account records found fields rest added next none =
    let here : records ≡ [] = next ∙ rw none refl in
    added.walk ∙ rw here refl

-- a book that is full takes no further record
with_account_record-full : (b : NamedBook) (fields : Fields) → length b.book.accounts ≡ most_accounts → with_account_record b fields ≡ Err (why.Book TooManyAccounts)
with_account_record-full b fields full = rw full refl

pub Added-full : (whole : Result NamedBook BadBook) (b : NamedBook) (account : ℕ) (records : List Fields) (found : Bool) (fields : Fields) (rest : List Fields)
    → Added whole b account records → IsNext records found fields rest → found ≡ true → account ≡ most_accounts
    → whole ≡ Err (record { line = most_accounts + 4; why = why.Book TooManyAccounts })
Added-full whole b account records found fields rest added next some last =
    let here : records ≡ fields ∷ rest = next ∙ rw some refl in
    let full : length b.book.accounts ≡ most_accounts = let at = added.count in omega arith in
    added.walk ∙ rw (here, accounts_from-fields b fields rest, with_account_record-full b fields full, full) refl
