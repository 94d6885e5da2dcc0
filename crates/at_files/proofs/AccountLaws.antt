-- The record of an account is the account with its name, written out.
use Rattle.std.proofs.Common.{◌≡◌, ℕ, ◌+◌, ◌^◌, ◌<◌, ◌≤◌, Bool, true, false, not, ◌==◌, nat_le, nat_lt, inl, inr, List, [], ◌∷◌, ◌++◌, length, map, All, get_or, Option, Some, None, Result, Ok, Err, if◌then◌else◌, codes, decimal, refl, sym, ◌∙◌, ap, subst, arith}
use Rattle.at_files.proofs.Prelude.{join_with_byte, eqb-true, nat_tests, nat_list_eq_equiv, length-decimal-le, length_push, All-head, All-push, All-tail, join_with_byte-slice_split, IsDistinct-push, number_of, number_of-some, AccountTerms, BookTerms, account_fault, owners_fault, sums_fault, terms_with, with_account, BookError, OwnersNotRising, TooManyAccounts, TooManyOwners, most_accounts, most_owners, choice-none, option_or-none, IsAccount-from_none, AreFormed, AreNames, AreNamesOf, has_name, is_name, position_of, Fields, before, field_of, number_at, has_shape, NamedBook, named_terms, numbered_terms, numbers_of, owner_known, owners_named, pieces_of, with_name, with_named, with_named_record, with_plain_record, with_account_record, with_terms, within_limits, fields_of_account, owners_text, BookWhy, most_name_bytes, and_then}
use Rattle.at_files.specs.declared.book_fault.BookWhy.TheVariants as why
use Rattle.at_files.proofs.Faults.{Err≢Ok}
use Rattle.at_files.proofs.NameLaws.{decimal-AreNames, decimals_below-more, has_name-decimals_below, known_version, position_of-Some}
use Rattle.at_files.proofs.OwnerLaws.{pieces_of-some}
use Rattle.at_files.proofs.FieldLaws.{length-has_shape, first-has_shape, four_fields, field_of-number_at}

-- a value came only where the one before it did
pub record Leads {A B : Type 0} (r : Result A BookWhy) (more : A → Result B BookWhy) (last : B) : Type 0 where
  pub value : A
  pub is : r ≡ Ok value
  pub later : more value ≡ Ok last

pub and_then-leads : {A B : Type 0} (r : Result A BookWhy) (more : A → Result B BookWhy) (last : B) → and_then r more ≡ Ok last → Leads r more last
and_then-leads (Ok x) more last h = record { value = x; is = refl; later = h }
and_then-leads (Err w) more last h = absurd (cc)

pub within_limits-ok : {A : Type 0} (fault : Option BookError) (x y : A) → within_limits fault x ≡ Ok y → (fault ≡ None) × (x ≡ y)
within_limits-ok None x y h = (refl, cc)
within_limits-ok (Some e) x y h = absurd (cc)

-- the name of an owner
abbrev pub name_in : List (List ℕ) → ℕ → List ℕ
name_in processes owner = get_or processes owner []

-- pieces that are numbers are their canonical decimals
pub pieces-numbers_of : (pieces : List (List ℕ)) (numbers : List ℕ) → numbers_of pieces ≡ Some numbers → pieces ≡ map decimal numbers
unfolding numbers_of
pieces-numbers_of [] numbers h = let none : [] ≡ numbers = cc in rw (← none) refl
pieces-numbers_of (piece ∷ pieces) numbers h =
    by (number_of piece) (numbers_of pieces) refl refl h (λ more is. pieces-numbers_of pieces more is)
  where
    by : (first : Option ℕ) (later : Option (List ℕ)) → number_of piece ≡ first → numbers_of pieces ≡ later → before first later ≡ Some numbers
        → ((more : List ℕ) → numbers_of pieces ≡ Some more → pieces ≡ map decimal more) → piece ∷ pieces ≡ map decimal numbers
    by None None e f is all = absurd (cc)
    by None (Some more) e f is all = absurd (cc)
    by (Some n) None e f is all = absurd (cc)
    by (Some n) (Some more) e f is all =
        let whole : n ∷ more ≡ numbers = cc in
        rw (← whole, (number_of-some piece n e).0, all more f) refl

-- the names of owners in version 1
pub map-name_in : (version : ℕ) (processes : List (List ℕ)) (owners : List ℕ) → AreNames version processes → version ≡ 1 → All (λ owner. owner < length processes) owners
    → map (name_in processes) owners ≡ map decimal owners
map-name_in version processes [] are first known = refl
map-name_in version processes (owner ∷ owners) are first known =
    rw (
      decimal-AreNames version processes owner are first (All-head (λ o. o < length processes) owner owners known),
      map-name_in version processes owners are first (All-tail (λ o. o < length processes) owner owners known),
    ) refl

-- an owner that follows others
pub owner_known-ok : (account count least : ℕ) (position : Option ℕ) (owner : ℕ) → owner_known account count least position ≡ Ok owner → position ≡ Some owner
owner_known-ok account count least None owner h = absurd (cc)
owner_known-ok account count least (Some n) owner h = by (nat_lt n least) (nat_le most_owners count) h
  where
    by : (low many : Bool) → (if low then Err (why.Book (OwnersNotRising account)) else if many then Err (why.Book (TooManyOwners account)) else Ok n) ≡ Ok owner → Some n ≡ Some owner
    by true many is = absurd (cc)
    by false true is = absurd (cc)
    by false false is = let same : n ≡ owner = cc in ap Some same

cons_same : {x y : List ℕ} {xs ys : List (List ℕ)} → x ≡ y → xs ≡ ys → x ∷ xs ≡ y ∷ ys
cons_same first later = rw (first, later) refl

-- pieces that name owners are the owners' names
pieces-owners_named : (processes : List (List ℕ)) (account count least : ℕ) (pieces : List (List ℕ)) (owners : List ℕ) → owners_named processes account count least pieces ≡ Ok owners
    → pieces ≡ map (name_in processes) owners
unfolding owners_named
pieces-owners_named processes account count least [] owners h = let none : [] ≡ owners = cc in rw (← none) refl
pieces-owners_named processes account count least (piece ∷ pieces) owners h =
    let first = and_then-leads (owner_known account count least (position_of processes piece))
    (λ owner. and_then (owners_named processes account (count + 1) (owner + 1) pieces) (λ more. Ok (owner ∷ more))) owners h in
    let later = and_then-leads (owners_named processes account (count + 1) (first.value + 1) pieces) (λ more. Ok (first.value ∷ more)) owners first.later in
    let at = position_of-Some processes piece first.value (owner_known-ok account count least (position_of processes piece) first.value first.is) in
    let whole : first.value ∷ later.value ≡ owners = let is = later.later in cc in
    subst (λ os. piece ∷ pieces ≡ map (name_in processes) os) whole
    (cons_same (sym at.1) (pieces-owners_named processes account (count + 1) (first.value + 1) pieces later.value later.is))

-- a field is its pieces, parted by one space each
text-pieces_of : (text : List ℕ) (pieces : List (List ℕ)) → pieces_of text ≡ pieces → text ≡ join_with_byte 32 pieces
text-pieces_of [] pieces h = ap (join_with_byte 32) h
text-pieces_of (byte ∷ text) pieces h =
    let some : (length (byte ∷ text) == 0) ≡ false = grind (arith, nat_tests) in
    sym (join_with_byte-slice_split 32 (byte ∷ text)) ∙ ap (join_with_byte 32) (rw (pieces_of-some (byte ∷ text) some) at h)

-- one more name
AreNames-decimal : (version : ℕ) (names : List (List ℕ)) (name : List ℕ) → AreNames version names → version ≡ 1 → length names < 2 ^ 64 → name ≡ decimal (length names)
    → AreNames version (names ++ name ∷ [])
AreNames-decimal version names name are first small is = by are.formed
  where
    by : AreFormed version names → AreNames version (names ++ name ∷ [])
    by (inr (v, formed)) = absurd (omega arith)
    by (inl (v, formed)) = record {
      formed = inl (v, rw (length_push names name, decimals_below-more (length names), is) (ap (λ (xs : List (List ℕ)). xs ++ decimal (length names) ∷ []) formed));
      distinct = IsDistinct-push nat_list_eq_equiv names name are.distinct (rw is (rw (← formed) at (has_name-decimals_below (length names) small)));
    }

pub AreNames-name : (version : ℕ) (names : List (List ℕ)) (name : List ℕ) → AreNames version names → version ≡ 2 → is_name name ≡ true → has_name names name ≡ false
    → AreNames version (names ++ name ∷ [])
AreNames-name version names name are second is new = by are.formed
  where
    by : AreFormed version names → AreNames version (names ++ name ∷ [])
    by (inl (v, formed)) = absurd (omega arith)
    by (inr (v, formed)) = record {
      formed = inr (v, All-push (λ other. is_name other ≡ true) names name formed is);
      distinct = IsDistinct-push nat_list_eq_equiv names name are.distinct new;
    }

-- a name that was added
pub record IsAdded (names more : List (List ℕ)) (name : List ℕ) : Type 0 where
  pub form : is_name name ≡ true
  pub new : has_name names name ≡ false
  pub more_is : more ≡ names ++ name ∷ []

pub with_name-added : (names more : List (List ℕ)) (name : List ℕ) → with_name names name ≡ Ok more → IsAdded names more name
with_name-added names more name h = by (is_name name) (has_name names name) refl refl h
  where
    by : (form twice : Bool) → is_name name ≡ form → has_name names name ≡ twice
        → (if form then (if twice then Err why.NameTwice else Ok (names ++ name ∷ [])) else Err why.Name) ≡ Ok more → IsAdded names more name
    by false twice e f is = absurd (cc)
    by true true e f is = absurd (cc)
    by true false e f is = record { form = e; new = f; more_is = let same : names ++ name ∷ [] ≡ more = cc in sym same }

AreNamesOf-with_named : (b : NamedBook) (name : List ℕ) (t : AccountTerms) → AreNamesOf b.book b.names → AreNames b.names.version (b.names.accounts ++ name ∷ [])
    → length b.book.accounts < most_accounts → AreNamesOf (with_named b name t).book (with_named b name t).names
AreNamesOf-with_named b name t are formed room = record {
  processes = are.processes;
  accounts = length_push b.names.accounts name ∙ ap (λ (n : ℕ). n + 1) are.accounts ∙ sym (length_push b.book.accounts t);
  formed = record {
    processes = are.formed.processes;
    accounts = formed;
    few_accounts = let same = are.accounts in omega (arith, length_push b.names.accounts name);
  };
}

-- a record adds an account with its name to the book so far
pub record Adds (b : NamedBook) (fields : Fields) (whole : NamedBook) : Type 0 where
  pub name : List ℕ
  pub account : AccountTerms
  pub whole_is : whole ≡ with_named b name account
  pub spelled : fields ≡ fields_of_account b.names.processes name account
  pub named : AreNamesOf whole.book whole.names

-- the parts of an account without a fault
record IsFree (b : BookTerms) (t : AccountTerms) : Type 0 where
  room : length b.accounts < most_accounts
  known : All (λ owner. owner < b.processes) t.owners

IsFree-account_fault : (b : BookTerms) (t : AccountTerms) → account_fault b t ≡ None → IsFree b t
IsFree-account_fault b t none =
    let room = choice-none (nat_le most_accounts (length b.accounts)) TooManyAccounts _ none in
    let both = option_or-none (owners_fault b.processes (length b.accounts) 0 0 t.owners) (sums_fault b t) room.1 in
    record {
      room = let test : nat_le most_accounts (length b.accounts) ≡ false = room.0 in grind (arith, nat_tests);
      known = (IsAccount-from_none b.processes (length b.accounts) t.opening t.owners both.0).known;
    }

-- the parts of an account of version 1
pub record IsNextNumbered (account : ℕ) (id opening : Option ℕ) (owners : Option (List ℕ)) (t : AccountTerms) : Type 0 where
  pub id_is : id ≡ Some account
  pub opening_is : opening ≡ Some t.opening
  pub owners_are : owners ≡ Some t.owners

pub numbered_terms-IsNextNumbered : (account : ℕ) (id opening : Option ℕ) (owners : Option (List ℕ)) (t : AccountTerms) → numbered_terms account id opening owners ≡ Ok t
    → IsNextNumbered account id opening owners t
numbered_terms-IsNextNumbered account None opening owners t h = absurd (cc)
numbered_terms-IsNextNumbered account (Some id) None owners t h = absurd (cc)
numbered_terms-IsNextNumbered account (Some id) (Some opening) None t h = absurd (cc)
numbered_terms-IsNextNumbered account (Some id) (Some opening) (Some owners) t h = by (id == account) refl h
  where
    by : (next : Bool) → (id == account) ≡ next → (if next then Ok (terms_with opening owners) else Err why.AccountOrder) ≡ Ok t
        → IsNextNumbered account (Some id) (Some opening) (Some owners) t
    by false e is = absurd (cc)
    by true e is =
        let same : terms_with opening owners ≡ t = cc in
        record {
          id_is = ap Some (eqb-true id account e);
          opening_is = ap (λ (x : AccountTerms). Some x.opening) same;
          owners_are = ap (λ (x : AccountTerms). Some x.owners) same;
        }

with_terms-adds : (b : NamedBook) (fields : Fields) (whole : NamedBook) (t : AccountTerms) → has_shape (codes "account") 4 fields ≡ true → AreNamesOf b.book b.names
    → number_at fields 2 ≡ Some t.opening → field_of fields 3 ≡ owners_text b.names.processes t.owners
    → AreNames b.names.version (b.names.accounts ++ field_of fields 1 ∷ []) → with_terms b (field_of fields 1) t ≡ Ok whole → Adds b fields whole
with_terms-adds b fields whole t shape are opening owners formed h =
    let both = within_limits-ok (account_fault b.book t) (with_named b (field_of fields 1) t) whole h in
    let free = IsFree-account_fault b.book t both.0 in
    let P : NamedBook → Type 0 = λ w. AreNamesOf w.book w.names in
    record {
      name = field_of fields 1;
      account = t;
      whole_is = sym both.1;
      spelled =
          four_fields fields (length-has_shape (codes "account") 4 fields shape)
          ∙ rw (first-has_shape (codes "account") 4 fields shape, field_of-number_at fields 2 t.opening opening, owners) refl;
      named = subst P both.1 (AreNamesOf-with_named b (field_of fields 1) t are formed free.room);
    }

pub with_plain_record-adds : (b : NamedBook) (fields : Fields) (whole : NamedBook) → has_shape (codes "account") 4 fields ≡ true → AreNamesOf b.book b.names
    → b.names.version ≡ 1 → with_plain_record b fields ≡ Ok whole → Adds b fields whole
with_plain_record-adds b fields whole shape are first h =
    let leads = and_then-leads (numbered_terms (length b.book.accounts) (number_at fields 1) (number_at fields 2) (numbers_of (pieces_of (field_of fields 3))))
    (with_terms b (field_of fields 1)) whole h in
    let t = leads.value in
    let is = numbered_terms-IsNextNumbered (length b.book.accounts) (number_at fields 1) (number_at fields 2) (numbers_of (pieces_of (field_of fields 3))) t leads.is in
    let free = IsFree-account_fault b.book t (within_limits-ok (account_fault b.book t) (with_named b (field_of fields 1) t) whole leads.later).0 in
    let pieces = pieces-numbers_of (pieces_of (field_of fields 3)) t.owners is.owners_are in
    let name : field_of fields 1 ≡ decimal (length b.names.accounts) = field_of-number_at fields 1 (length b.book.accounts) is.id_is ∙ ap decimal (sym are.accounts) in
    with_terms-adds b fields whole t shape are is.opening_is
    (text-pieces_of (field_of fields 3) (map (name_in b.names.processes) t.owners)
    (pieces ∙ sym (map-name_in b.names.version b.names.processes t.owners are.formed.processes first (subst (λ (n : ℕ). All (λ owner. owner < n) t.owners) (sym are.processes) free.known))))
    (AreNames-decimal b.names.version b.names.accounts (field_of fields 1) are.formed.accounts first (omega (arith, are.formed.few_accounts)) name)
    leads.later

-- the parts of an account of version 2
record IsNamed (processes : List (List ℕ)) (account : ℕ) (opening : Option ℕ) (text : List ℕ) (t : AccountTerms) : Type 0 where
  opening_is : opening ≡ Some t.opening
  text_is : text ≡ owners_text processes t.owners

named_terms-IsNamed : (processes : List (List ℕ)) (account : ℕ) (opening : Option ℕ) (text : List ℕ) (t : AccountTerms) → named_terms processes account opening text ≡ Ok t
    → IsNamed processes account opening text t
named_terms-IsNamed processes account None text t h = absurd (cc)
named_terms-IsNamed processes account (Some opening) text t h =
    let leads = and_then-leads (owners_named processes account 0 0 (pieces_of text)) (λ owners. Ok (terms_with opening owners)) t h in
    let same : terms_with opening leads.value ≡ t = let is = leads.later in cc in
    let P : AccountTerms → Type 0 = IsNamed processes account (Some opening) text in
    subst P same (record {
      opening_is = refl;
      text_is = text-pieces_of text (map (name_in processes) leads.value) (pieces-owners_named processes account 0 0 (pieces_of text) leads.value leads.is);
    })

pub with_named_record-adds : (b : NamedBook) (fields : Fields) (whole : NamedBook) → has_shape (codes "account") 4 fields ≡ true → AreNamesOf b.book b.names
    → b.names.version ≡ 2 → with_named_record b fields ≡ Ok whole → Adds b fields whole
with_named_record-adds b fields whole shape are second h =
    let name = and_then-leads (with_name b.names.accounts (field_of fields 1))
    (λ names. and_then (named_terms b.names.processes (length b.book.accounts) (number_at fields 2) (field_of fields 3)) (with_terms b (field_of fields 1))) whole h in
    let added = with_name-added b.names.accounts name.value (field_of fields 1) name.is in
    let leads = and_then-leads (named_terms b.names.processes (length b.book.accounts) (number_at fields 2) (field_of fields 3)) (with_terms b (field_of fields 1)) whole name.later in
    let is = named_terms-IsNamed b.names.processes (length b.book.accounts) (number_at fields 2) (field_of fields 3) leads.value leads.is in
    with_terms-adds b fields whole leads.value shape are is.opening_is is.text_is
    (AreNames-name b.names.version b.names.accounts (field_of fields 1) are.formed.accounts second added.form added.new) leads.later

pub with_account_record-adds : (b : NamedBook) (fields : Fields) (whole : NamedBook) → AreNamesOf b.book b.names → with_account_record b fields ≡ Ok whole → Adds b fields whole
with_account_record-adds b fields whole are h = by (nat_le most_accounts (length b.book.accounts)) (has_shape (codes "account") 4 fields) (b.names.version == 2) refl refl h
  where
    first : (b.names.version == 2) ≡ false → b.names.version ≡ 1
    first other = elim (known_version b.names.version b.names.accounts are.formed.accounts) [ inl is ↦ is | inr is ↦ grind (arith, nat_tests) ]

    by : (full shape named : Bool) → has_shape (codes "account") 4 fields ≡ shape → (b.names.version == 2) ≡ named
        → (if full then Err (why.Book TooManyAccounts)
        else if shape then (if named then with_named_record b fields else with_plain_record b fields) else Err why.Shape) ≡ Ok whole → Adds b fields whole
    by true shape named e f is = absurd (Err≢Ok _ _ is)
    by false false named e f is = absurd (Err≢Ok _ _ is)
    by false true true e f is = with_named_record-adds b fields whole e are (eqb-true b.names.version 2 f) is
    by false true false e f is = with_plain_record-adds b fields whole e are (first f) is

-- a book that isn't of version 2 is of version 1
pub first_version : (b : NamedBook) → AreNamesOf b.book b.names → ¬ (b.names.version ≡ 2) → b.names.version ≡ 1
first_version b are other = elim (known_version b.names.version b.names.accounts are.formed.accounts) [ inl is ↦ is | inr is ↦ absurd (other is) ]

-- what the parts of a record of version 1 make
pub with_plain_record-built : (b : NamedBook) (fields : Fields) (t : AccountTerms) (book : BookTerms) (names : List (List ℕ)) (added : Bool) → AreNamesOf b.book b.names
    → b.names.version ≡ 1
    → numbered_terms (length b.book.accounts) (number_at fields 1) (number_at fields 2) (numbers_of (pieces_of (field_of fields 3))) ≡ Ok t
    → within_limits (account_fault b.book t) (with_account b.book t) ≡ Ok book → added ≡ not (has_name b.names.accounts (field_of fields 1))
    → names ≡ (if added then b.names.accounts ++ field_of fields 1 ∷ [] else b.names.accounts)
    → with_plain_record b fields ≡ Ok (record { book = book; names = record b.names { accounts = names } })
with_plain_record-built b fields t book names added are first terms limits new all =
    let is = numbered_terms-IsNextNumbered (length b.book.accounts) (number_at fields 1) (number_at fields 2) (numbers_of (pieces_of (field_of fields 3))) t terms in
    let both = within_limits-ok (account_fault b.book t) (with_account b.book t) book limits in
    let name : field_of fields 1 ≡ decimal (length b.names.accounts) = field_of-number_at fields 1 (length b.book.accounts) is.id_is ∙ ap decimal (sym are.accounts) in
    let absent = absent_plain b.names.version b.names.accounts (field_of fields 1) are.formed.accounts first (omega (arith, are.formed.few_accounts)) name in
    let yes : added ≡ true = new ∙ rw absent refl in
    rw (terms, both.0, all, yes, ← both.1) refl
  where
    absent_plain : (version : ℕ) (xs : List (List ℕ)) (name : List ℕ) → AreNames version xs → version ≡ 1 → length xs < 2 ^ 64 → name ≡ decimal (length xs) → has_name xs name ≡ false
    absent_plain version xs name names one small is = at names.formed
      where
        at : AreFormed version xs → has_name xs name ≡ false
        at (inr (v, formed)) = absurd (omega arith)
        at (inl (v, formed)) = rw is (rw (← formed) at (has_name-decimals_below (length xs) small))

-- the name of an account of version 1 is short
pub length-numbered : (account : ℕ) (fields : Fields) (opening : Option ℕ) (owners : Option (List ℕ)) (t : AccountTerms) → account < most_accounts
    → numbered_terms account (number_at fields 1) opening owners ≡ Ok t → length (field_of fields 1) ≤ most_name_bytes
length-numbered account fields opening owners t room terms =
    let is = numbered_terms-IsNextNumbered account (number_at fields 1) opening owners t terms in
    rw (field_of-number_at fields 1 account is.id_is)
    (let short : length (decimal account) ≤ 4 = length-decimal-le 4 account (omega arith) (omega arith) (omega arith) in omega arith)
