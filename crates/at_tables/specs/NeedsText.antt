-- The text of `needs`: which account would have to open with how much, so that no payment from it needs agreement.
use Rattle.std.specs.Prelude.{ℕ, ◌-◌, List, [], ◌∷◌, ◌++◌, codes, decimal, flat_map, length, map, slice_index_or, sum_by}
use Rattle.at_tables.specs.Prelude.{range_with_len, BookTerms, account_of, Call, NameList, account_name, process_name, asked_in_file, Words, record_text, records_text}
use Rattle.at_tables.specs.KindsText.{use_word}

-- the names of the fields
abbrev pub needs_head : Words
needs_head =
    codes "account" ∷ codes "kind" ∷ codes "opening" ∷ codes "asked" ∷ codes "missing" ∷ codes "owner" ∷ codes "owner_asked" ∷ []

-- what an owner asks of the account: the sum of its payments from there, in its own file
abbrev pub owner_asks : BookTerms → List (List Call) → ℕ → ℕ → ℕ
owner_asks b files a owner = asked_in_file b owner a (slice_index_or files owner [])

-- the account's name, how its owners use it, what it opens with, what they ask of it in all, and how much of that it lacks
abbrev pub account_fields : BookTerms → NameList → ℕ → ℕ → Words
account_fields b names a asked =
    account_name names a ∷ use_word (account_of b a) ∷ decimal (account_of b a).opening ∷ decimal asked ∷ decimal (asked - (account_of b a).opening) ∷ []

-- these fields, an owner and what it asks
abbrev pub owner_fields : NameList → Words → (ℕ → ℕ) → ℕ → Words
owner_fields names fields asks owner = fields ++ process_name names owner ∷ decimal (asks owner) ∷ []

-- a record for each owner; where there is none, one with the last two fields empty
abbrev pub owner_records : NameList → Words → (ℕ → ℕ) → List ℕ → List Words
owner_records names fields asks [] = (fields ++ [] ∷ [] ∷ []) ∷ []
owner_records names fields asks (owner ∷ owners) = map (owner_fields names fields asks) (owner ∷ owners)

-- the records of an account, by what each owner asks of it; all of them together ask the sum
abbrev pub needs_of_account : BookTerms → NameList → (ℕ → ℕ) → ℕ → List Words
needs_of_account b names asks a =
    owner_records names (account_fields b names a (sum_by asks (account_of b a).owners)) asks (account_of b a).owners

-- the records of the first accounts, in order
abbrev pub needs_records : BookTerms → NameList → (ℕ → ℕ → ℕ) → ℕ → List Words
needs_records b names asks accounts = flat_map (λ a. needs_of_account b names (asks a) a) (range_with_len 0 accounts)

-- the whole text. The names of the fields, and a CSV record for each account and owner
abbrev pub needs_text : BookTerms → NameList → List (List Call) → List ℕ
needs_text b names files = record_text needs_head ++ records_text (needs_records b names (owner_asks b files) (length b.accounts))
