-- A book file that is a book without a fault with its names, written out, is read as this book.
use Rattle.std.proofs.Common.{◌≡◌, ℕ, ◌+◌, ◌^◌, ◌<◌, ◌≤◌, true, false, ◌⊎◌, inl, inr, ◌==◌, nat_lt, nat_le, List, [], ◌∷◌, ◌++◌, length, map, All, get_or, Some, None, Result, Ok, Err, bytes_eq, codes, decimal, refl, sym, ◌∙◌, ap, subst, append_assoc, append-nil, length-append, arith}
use Rattle.at_files.proofs.Prelude.{is_ascii_digit, IsDistinct, slice_split, join_with_byte, eq-eqb, nat_tests, nat_list_eq_equiv, digits_decimal, decimal_digit, decimal_nonempty, get_or_append_left, length_push, All-cons, All-head, All-tail, list_any_none, AllPass-from_list_all, slice_split_none, slice_split_at, apart_from_distinct, get_or-append_seam, field_at, number_of, number_of-decimal, own, AccountTerms, rounds_room, BookTerms, IsBook, rounds_of, total_of, owner_fault, owners_fault, sums_fault, account_fault, accounts_fault, with_account, book_without_accounts, NoAccount, OwnerOutOfRange, OwnersNotRising, TooManyAccounts, TooManyOwners, RoundsOverLimit, TotalOverLimit, most_accounts, most_owners, most_processes, most_rounds, choice-none, option_or-none, IsAccount-from_none, AreFormed, AreNames, AreNamesOf, NameList, has_name, is_name, is_name_byte, Fields, NamedBook, book_begun, limits_of, numbers_of, owners_named, pieces_of, processes_of, version_of, with_named, with_named_record, with_plain_record, with_processes, with_account_record, accounts_from, book_at_end, book_of_records, fields_of_account, fields_of_processes, owners_text, account_records, records_of_book, Spells, BadBook, ReadBookFault}
use Rattle.at_files.specs.declared.book_fault.ReadBookFault.TheVariants.{Bad, NoMemory}
use Rattle.at_files.proofs.AccountLaws.{map-name_in, name_in}
use Rattle.at_files.proofs.BookLimits.{accounts_fault-IsBook, limits_fault-within}
use Rattle.at_files.proofs.NameLaws.{decimal-AreNames, known_version, name-bytes, name-some, name_byte-above, position_of-at}
use Rattle.at_files.proofs.OwnerLaws.{pieces_of-some}

-- a text that holds no space, and isn't empty
record IsSolid (text : List ℕ) : Type 0 where
  solid : All (λ byte. (byte == 32) ≡ false) text
  some : 0 < length text

slice_split-join : (text : List ℕ) (texts : List (List ℕ)) → All IsSolid (text ∷ texts) → slice_split (λ byte. byte == 32) (join_with_byte 32 (text ∷ texts)) ≡ text ∷ texts
slice_split-join text [] all = slice_split_none (λ byte. byte == 32) text (All-head IsSolid text [] all).solid
slice_split-join text (next ∷ texts) all =
    slice_split_at (λ byte. byte == 32) text 32 (join_with_byte 32 (next ∷ texts)) (All-head IsSolid text (next ∷ texts) all).solid refl
    ∙ ap (λ pieces. text ∷ pieces) (slice_split-join next texts (All-tail IsSolid text (next ∷ texts) all))

join-some : (text : List ℕ) (texts : List (List ℕ)) → All IsSolid (text ∷ texts) → 0 < length (join_with_byte 32 (text ∷ texts))
join-some text [] all = (All-head IsSolid text [] all).some
join-some text (next ∷ texts) all =
    let some = (All-head IsSolid text (next ∷ texts) all).some in
    omega (arith, length-append text (32 ∷ join_with_byte 32 (next ∷ texts)))

-- texts that are parted by one space each are the pieces
pieces_of-join : (texts : List (List ℕ)) → All IsSolid texts → pieces_of (join_with_byte 32 texts) ≡ texts
pieces_of-join [] all = refl
pieces_of-join (text ∷ texts) all =
    let some : 0 < length (join_with_byte 32 (text ∷ texts)) = join-some text texts all in
    let test : (length (join_with_byte 32 (text ∷ texts)) == 0) ≡ false = grind (arith, nat_tests) in
    pieces_of-some (join_with_byte 32 (text ∷ texts)) test ∙ slice_split-join text texts all

-- a number that a file can hold
abbrev pub Fits64 : ℕ → Type 0
Fits64 n = n < 2 ^ 64

-- no digit is a space
IsSolid-decimal : (n : ℕ) → Fits64 n → IsSolid (decimal n)
IsSolid-decimal n h = record {
  solid = λ k d within.
      let digit : is_ascii_digit (get_or (decimal n) k d) ≡ true = AllPass-from_list_all is_ascii_digit (decimal n) (digits_decimal own n h) k d within in
      grind (arith, nat_tests);
  some = decimal_nonempty n h;
}

-- no byte of a name is a space
name_byte-solid : (byte : ℕ) → is_name_byte byte ≡ true → (byte == 32) ≡ false
name_byte-solid byte h = let above = name_byte-above byte h in grind (arith, nat_tests)

IsSolid-name : (name : List ℕ) → is_name name ≡ true → IsSolid name
IsSolid-name name h = record {
  solid = λ k d within. name_byte-solid (get_or name k d) (AllPass-from_list_all is_name_byte name (name-bytes name h) k d within);
  some = name-some name h;
}

IsSolid-AreNames : (version : ℕ) (names : List (List ℕ)) (n : ℕ) → AreNames version names → n < length names → length names < 2 ^ 64 → IsSolid (get_or names n [])
IsSolid-AreNames version names n are within few = by are.formed
  where
    by : AreFormed version names → IsSolid (get_or names n [])
    by (inl (first, formed)) = rw (decimal-AreNames version names n are first within) (IsSolid-decimal n (omega arith))
    by (inr (second, formed)) = IsSolid-name (get_or names n []) (formed n [] within)

owners-solid : (version : ℕ) (processes : List (List ℕ)) (owners : List ℕ) → AreNames version processes → length processes < 2 ^ 64 → All (λ owner. owner < length processes) owners
    → All IsSolid (map (name_in processes) owners)
owners-solid version processes [] are few known = λ k d within. absurd (omega arith)
owners-solid version processes (owner ∷ owners) are few known =
    All-cons IsSolid (name_in processes owner) (map (name_in processes) owners)
    (IsSolid-AreNames version processes owner are (All-head (λ o. o < length processes) owner owners known) few)
    (owners-solid version processes owners are few (All-tail (λ o. o < length processes) owner owners known))

pub numbers_of-decimals : (ns : List ℕ) → All Fits64 ns → numbers_of (map decimal ns) ≡ Some ns
unfolding numbers_of
numbers_of-decimals [] fit = refl
numbers_of-decimals (n ∷ ns) fit =
    rw (number_of-decimal n (All-head Fits64 n ns fit), numbers_of-decimals ns (All-tail Fits64 n ns fit)) refl

-- owners without a fault, given by their names
owners_named-names : (processes : List (List ℕ)) (account count least : ℕ) (owners : List ℕ) → IsDistinct bytes_eq processes
    → owners_fault (length processes) account count least owners ≡ None → owners_named processes account count least (map (name_in processes) owners) ≡ Ok owners
unfolding owners_named owners_fault
owners_named-names processes account count least [] distinct none = refl
owners_named-names processes account count least (owner ∷ owners) distinct none =
    let both = option_or-none (owner_fault (length processes) account count least owner) (owners_fault (length processes) account (count + 1) (owner + 1) owners) none in
    let range = choice-none (nat_le (length processes) owner) (OwnerOutOfRange account) _ both.0 in
    let rising = choice-none (nat_lt owner least) (OwnersNotRising account) _ range.1 in
    let few = choice-none (nat_le most_owners count) (TooManyOwners account) None rising.1 in
    let within : owner < length processes = let test : nat_le (length processes) owner ≡ false = range.0 in grind (arith, nat_tests) in
    rw (position_of-at processes owner distinct within, rising.0, few.0, owners_named-names processes account (count + 1) (owner + 1) owners distinct both.1) refl

-- what an account without a fault keeps
record IsGood (b : BookTerms) (t : AccountTerms) : Type 0 where
  room : nat_le most_accounts (length b.accounts) ≡ false
  opening : Fits64 t.opening
  known : All (λ owner. owner < b.processes) t.owners
  owners : owners_fault b.processes (length b.accounts) 0 0 t.owners ≡ None

IsGood-account_fault : (b : BookTerms) (t : AccountTerms) → account_fault b t ≡ None → IsGood b t
IsGood-account_fault b t none =
    let room = choice-none (nat_le most_accounts (length b.accounts)) TooManyAccounts _ none in
    let both = option_or-none (owners_fault b.processes (length b.accounts) 0 0 t.owners) (sums_fault b t) room.1 in
    let rounds = choice-none (nat_lt most_rounds (rounds_of b + rounds_room b.request_room t)) (RoundsOverLimit (length b.accounts)) _ both.1 in
    let total = choice-none (nat_le (2 ^ 64) (total_of b + t.opening)) (TotalOverLimit (length b.accounts)) None rounds.1 in
    record {
      room = room.0;
      opening = let over : nat_le (2 ^ 64) (total_of b + t.opening) ≡ false = total.0 in grind (arith, nat_tests);
      known = (IsAccount-from_none b.processes (length b.accounts) t.opening t.owners both.0).known;
      owners = both.0;
    }

-- what a name has to be that follows others
abbrev IsNextName : ℕ → List (List ℕ) → List ℕ → Type 0
IsNextName version names name =
    ((version ≡ 1) × (name ≡ decimal (length names))) ⊎ ((version ≡ 2) × (is_name name ≡ true) × (has_name names name ≡ false))

-- each of the names may follow those before it
unfoldable AreNext : ℕ → List (List ℕ) → List (List ℕ) → Type 0
AreNext version names [] = Unit {0}
AreNext version names (name ∷ later) = IsNextName version names name × AreNext version (names ++ name ∷ []) later

IsNextName-at : (version : ℕ) (names : List (List ℕ)) (name : List ℕ) (later : List (List ℕ)) → AreNames version (names ++ name ∷ later) → IsNextName version names name
IsNextName-at version names name later are = by are.formed
  where
    within : length names < length (names ++ name ∷ later)
    within = omega (arith, length-append names (name ∷ later))

    here : (d : List ℕ) → get_or (names ++ name ∷ later) (length names) d ≡ name
    here d = get_or-append_seam names name later d

    by : AreFormed version (names ++ name ∷ later) → IsNextName version names name
    by (inl (first, formed)) = inl (first, sym (here []) ∙ decimal-AreNames version (names ++ name ∷ later) (length names) are first within)
    by (inr (second, formed)) = inr (
      second,
      rw (here []) at (formed (length names) [] within),
      list_any_none (bytes_eq name) names (λ k d below.
          let apart : bytes_eq (get_or (names ++ name ∷ later) k d) (get_or (names ++ name ∷ later) (length names) d) ≡ false =
          apart_from_distinct bytes_eq (names ++ name ∷ later) k (length names) d are.distinct below within in
          nat_list_eq_equiv.symm name (get_or names k d) ∙ (rw (here d, get_or_append_left names (name ∷ later) d k below) at apart)),
    )

AreNext-AreNames : (version : ℕ) (names later : List (List ℕ)) → AreNames version (names ++ later) → AreNext version names later
unfolding AreNext
AreNext-AreNames version names [] are = tt
AreNext-AreNames version names (name ∷ later) are = (
  IsNextName-at version names name later are,
  AreNext-AreNames version (names ++ name ∷ []) later (subst (AreNames version) (sym (append_assoc names (name ∷ []) later)) are),
)

-- what holds of a book so far to which accounts with names are added
record IsReady (b : NamedBook) : Type 0 where
  processes : AreNames b.names.version b.names.processes
  count : length b.names.processes ≡ b.book.processes
  few : b.book.processes ≤ most_processes
  same : length b.names.accounts ≡ length b.book.accounts

with_plain_record-fields : (b : NamedBook) (name : List ℕ) (t : AccountTerms) → IsReady b → IsGood b.book t → account_fault b.book t ≡ None → b.names.version ≡ 1
    → name ≡ decimal (length b.names.accounts) → with_plain_record b (fields_of_account b.names.processes name t) ≡ Ok (with_named b name t)
unfolding field_at
with_plain_record-fields b name t ready good none first is =
    let fits : Fits64 (length b.book.accounts) = let room : nat_le most_accounts (length b.book.accounts) ≡ false = good.room in grind (arith, nat_tests) in
    let id : number_of name ≡ Some (length b.book.accounts) = rw (is, ready.same) (number_of-decimal (length b.book.accounts) fits) in
    let next : (length b.book.accounts == length b.book.accounts) ≡ true = eq-eqb (length b.book.accounts) (length b.book.accounts) refl in
    let known : All (λ owner. owner < length b.names.processes) t.owners = subst (λ (n : ℕ). All (λ owner. owner < n) t.owners) (sym ready.count) good.known in
    let few : length b.names.processes < 2 ^ 64 = let same = ready.count in let small = ready.few in omega arith in
    let pieces : pieces_of (owners_text b.names.processes t.owners) ≡ map decimal t.owners =
    pieces_of-join (map (name_in b.names.processes) t.owners) (owners-solid b.names.version b.names.processes t.owners ready.processes few known)
    ∙ map-name_in b.names.version b.names.processes t.owners ready.processes first known in
    let owners : numbers_of (pieces_of (owners_text b.names.processes t.owners)) ≡ Some t.owners =
    ap numbers_of pieces ∙ numbers_of-decimals t.owners (λ k d within. let below = known k d within in omega arith) in
    rw (id, number_of-decimal t.opening good.opening, owners, next, none) refl

with_named_record-fields : (b : NamedBook) (name : List ℕ) (t : AccountTerms) → IsReady b → IsGood b.book t → account_fault b.book t ≡ None
    → is_name name ≡ true → has_name b.names.accounts name ≡ false → with_named_record b (fields_of_account b.names.processes name t) ≡ Ok (with_named b name t)
unfolding field_at
with_named_record-fields b name t ready good none form new =
    let known : All (λ owner. owner < length b.names.processes) t.owners = subst (λ (n : ℕ). All (λ owner. owner < n) t.owners) (sym ready.count) good.known in
    let few : length b.names.processes < 2 ^ 64 = let same = ready.count in let small = ready.few in omega arith in
    let pieces : pieces_of (owners_text b.names.processes t.owners) ≡ map (name_in b.names.processes) t.owners =
    pieces_of-join (map (name_in b.names.processes) t.owners) (owners-solid b.names.version b.names.processes t.owners ready.processes few known) in
    let free : owners_fault (length b.names.processes) (length b.book.accounts) 0 0 t.owners ≡ None =
    subst (λ (n : ℕ). owners_fault n (length b.book.accounts) 0 0 t.owners ≡ None) (sym ready.count) good.owners in
    let owners : owners_named b.names.processes (length b.book.accounts) 0 0 (pieces_of (owners_text b.names.processes t.owners)) ≡ Ok t.owners =
    ap (owners_named b.names.processes (length b.book.accounts) 0 0) pieces
    ∙ owners_named-names b.names.processes (length b.book.accounts) 0 0 t.owners ready.processes.distinct free in
    rw (form, new, number_of-decimal t.opening good.opening, owners, none) refl

with_account_record-fields : (b : NamedBook) (name : List ℕ) (t : AccountTerms) → IsReady b → account_fault b.book t ≡ None → IsNextName b.names.version b.names.accounts name
    → with_account_record b (fields_of_account b.names.processes name t) ≡ Ok (with_named b name t)
unfolding field_at
with_account_record-fields b name t ready none (inl (first, is)) =
    let good = IsGood-account_fault b.book t none in
    let test : (b.names.version == 2) ≡ false = grind (arith, nat_tests) in
    rw (good.room, test) (with_plain_record-fields b name t ready good none first is)
with_account_record-fields b name t ready none (inr (second, form, new)) =
    let good = IsGood-account_fault b.book t none in
    let test : (b.names.version == 2) ≡ true = eq-eqb b.names.version 2 second in
    rw (good.room, test) (with_named_record-fields b name t ready good none form new)

-- a book with further accounts and their names
abbrev with_all : NamedBook → List (List ℕ) → List AccountTerms → NamedBook
with_all b names ts = record {
  book = record b.book { accounts = b.book.accounts ++ ts };
  names = record b.names { accounts = b.names.accounts ++ names };
}

accounts_from-records : (b : NamedBook) (names : List (List ℕ)) (ts : List AccountTerms) → length names ≡ length ts → IsReady b → AreNext b.names.version b.names.accounts names
    → accounts_fault b.book ts ≡ None → accounts_from b (account_records b.names.processes names ts) ≡ Ok (with_all b names ts)
unfolding accounts_from account_records accounts_fault AreNext
accounts_from-records b [] [] same ready next none =
    let some = choice-none (length b.book.accounts == 0) NoAccount None none in
    at_end b some.0 ∙ ap Ok (rw (append-nil b.book.accounts, append-nil b.names.accounts) refl)
  where
    at_end : (x : NamedBook) → (length x.book.accounts == 0) ≡ false → book_at_end x ≡ Ok x
    at_end x test = rw test refl
accounts_from-records b [] (t ∷ ts) same ready next none = absurd (omega arith)
accounts_from-records b (name ∷ names) [] same ready next none = absurd (omega arith)
accounts_from-records b (name ∷ names) (t ∷ ts) same ready next none =
    let both = option_or-none (account_fault b.book t) (accounts_fault (with_account b.book t) ts) none in
    let more : IsReady (with_named b name t) = record {
      processes = ready.processes;
      count = ready.count;
      few = ready.few;
      same = length_push b.names.accounts name ∙ ap (λ (n : ℕ). n + 1) ready.same ∙ sym (length_push b.book.accounts t);
    } in
    rw (
      with_account_record-fields b name t ready both.0 next.0,
      accounts_from-records (with_named b name t) names ts (omega arith) more next.1 both.1,
      append_assoc b.book.accounts (t ∷ []) ts,
      append_assoc b.names.accounts (name ∷ []) names,
    ) refl

-- the first three records of a book
version_of-record : (version : ℕ) → (version ≡ 1) ⊎ (version ≡ 2) → version_of (codes "book" ∷ decimal version ∷ []) ≡ Ok version
unfolding field_at
version_of-record version (inl first) = rw (first, decimal_digit 1 (omega arith)) refl
version_of-record version (inr second) = rw (second, decimal_digit 2 (omega arith)) refl

with_processes-next : (names later : List (List ℕ)) → AreNext 2 names later → length names + length later ≤ most_processes → with_processes names later ≡ Ok (names ++ later)
unfolding with_processes AreNext
with_processes-next names [] next few = ap Ok (sym (append-nil names))
with_processes-next names (name ∷ later) (inl (wrong, is), rest) few = absurd (omega arith)
with_processes-next names (name ∷ later) (inr (second, form, new), rest) few =
    let room : nat_le most_processes (length names) ≡ false = grind (arith, nat_tests) in
    rw (room, form, new, with_processes-next (names ++ name ∷ []) later rest (omega (arith, length_push names name)), append_assoc names (name ∷ []) later) refl

processes_of-record : (names : NameList) → AreNames names.version names.processes → 1 ≤ length names.processes → length names.processes ≤ most_processes
    → processes_of names.version (fields_of_processes names) ≡ Ok names.processes
unfolding field_at
processes_of-record names are some few = by are.formed
  where
    by : AreFormed names.version names.processes → processes_of names.version (fields_of_processes names) ≡ Ok names.processes
    by (inl (first, formed)) =
        let test : (names.version == 2) ≡ false = grind (arith, nat_tests) in
        rw (
          test,
          number_of-decimal (length names.processes) (omega arith),
          limits_fault-within (length names.processes) 1 1 some few (omega arith) (omega arith) (omega arith) (omega arith),
        ) (ap Ok (sym formed))
    by (inr (second, formed)) =
        let test : (names.version == 2) ≡ true = eq-eqb names.version 2 second in
        let count : (length (codes "processes" ∷ names.processes) == 1) ≡ false = grind (arith, nat_tests) in
        rw (test, count)
        (with_processes-next [] names.processes (AreNext-AreNames 2 [] names.processes (rw second at are)) (omega arith))

limits_of-record : (b : BookTerms) (names : NameList) → IsBook b → length names.processes ≡ b.processes
    → limits_of names.version names.processes (codes "limits" ∷ decimal b.own_room ∷ decimal b.request_room ∷ [])
    ≡ Ok (book_begun names.version names.processes b.own_room b.request_room)
unfolding field_at
limits_of-record b names is count =
    let few : length names.processes ≤ most_processes = let most = is.begun.few_processes in omega arith in
    let some : 1 ≤ length names.processes = let least = is.begun.some_process in omega arith in
    rw (
      number_of-decimal b.own_room (omega (arith, is.begun.own_room)),
      number_of-decimal b.request_room (omega (arith, is.begun.request_room)),
      limits_fault-within (length names.processes) b.own_room b.request_room some few is.begun.some_own_room is.begun.own_room is.begun.some_request_room is.begun.request_room,
    ) refl

-- a book with its names, written out, is read back
pub book_of_records-records_of_book : (b : BookTerms) (names : NameList) → IsBook b → AreNamesOf b names → book_of_records (records_of_book b names) ≡ Ok (record { book = b; names = names })
book_of_records-records_of_book b names is are =
    let few : length names.processes ≤ most_processes = let most = is.begun.few_processes in let count = are.processes in omega arith in
    let some : 1 ≤ length names.processes = let least = is.begun.some_process in let count = are.processes in omega arith in
    let begun : NamedBook = book_begun names.version names.processes b.own_room b.request_room in
    let ready : IsReady begun = record { processes = are.formed.processes; count = refl; few = few; same = refl } in
    let free : accounts_fault (book_without_accounts (length names.processes) b.own_room b.request_room) b.accounts ≡ None =
    subst (λ (n : ℕ). accounts_fault (book_without_accounts n b.own_room b.request_room) b.accounts ≡ None) (sym are.processes) (accounts_fault-IsBook b is) in
    let accounts : accounts_from begun (account_records names.processes names.accounts b.accounts) ≡ Ok (with_all begun names.accounts b.accounts) =
    accounts_from-records begun names.accounts b.accounts are.accounts ready (AreNext-AreNames names.version [] names.accounts are.formed.accounts) free in
    let whole : with_all begun names.accounts b.accounts ≡ record { book = b; names = names } =
    ap (λ (n : ℕ). record { book = record b { processes = n }; names = names }) are.processes in
    rw (
      version_of-record names.version (known_version names.version names.accounts are.formed.accounts),
      processes_of-record names are.formed.processes some few,
      limits_of-record b names is are.processes,
      accounts,
    ) (ap Ok whole)

-- a file that spells a book isn't refused
pub Spells-not_bad : (b : BookTerms) (names : NameList) (records : List Fields) (fault : ReadBookFault) → Spells records b names
    → ((bad : BadBook) → fault ≡ Bad bad → book_of_records records ≡ Err bad) → fault ≡ NoMemory
Spells-not_bad b names records NoMemory spells bads = refl
Spells-not_bad b names records (Bad bad) spells bads =
    let wrong : ◌≡◌ {A = Result NamedBook BadBook} (Ok (record { book = b; names = names })) (Err bad) = sym (book_of_records-records_of_book b names spells.book spells.named) ∙ rw spells.spelled at (bads bad refl) in
    absurd (cc)
