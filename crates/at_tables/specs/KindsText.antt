-- The text of `kinds`: how many payments are of each kind, who uses each account and how often, and which owners have to agree.
use Rattle.std.specs.Prelude.{ℕ, List, [], ◌∷◌, ◌++◌, codes, decimal, length, map, if◌then◌else◌}
use Rattle.at_tables.specs.Prelude.{range_with_len, AccountTerms, is_shared, is_single, BookTerms, account_of, Call, NameList, account_name, process_name, Word, Words, lines_text}
use Rattle.at_tables.specs.Groups.{GroupTerms, groups_of}
use Rattle.at_tables.specs.Kinds.{count_in, has_kind, is_agreed_kind, is_alone_kind, is_by_owner_of, is_payment_kind, is_refused_kind}

-- what is counted, and how many there are
abbrev pub count_words : Word → ℕ → Words
count_words what count = what ∷ decimal count ∷ []

-- how many payments the files have, how many of them are of each kind, and how many accounts there are
abbrev pub head_lines : BookTerms → List (List Call) → List Words
head_lines b files =
    count_words (codes "payments") (count_in (has_kind is_payment_kind b) files)
    ∷ count_words (codes "refused") (count_in (has_kind is_refused_kind b) files)
    ∷ count_words (codes "alone") (count_in (has_kind is_alone_kind b) files)
    ∷ count_words (codes "agreed") (count_in (has_kind is_agreed_kind b) files)
    ∷ count_words (codes "accounts") (length b.accounts)
    ∷ []

-- how the owners of an account use it
abbrev pub use_word : AccountTerms → Word
use_word t = if is_shared t then codes "shared" else (if is_single t then codes "alone" else codes "nobody")

-- the names of the owners
abbrev pub owner_words : NameList → List ℕ → Words
owner_words names owners = map (process_name names) owners

-- the account's name, how its owners use it, how many payments they make from it, and who they are
abbrev pub account_words : BookTerms → NameList → List (List Call) → ℕ → Words
account_words b names files a =
    account_name names a ∷ use_word (account_of b a) ∷ decimal (count_in (is_by_owner_of a b) files) ∷ owner_words names (account_of b a).owners

-- the same of each account, in order
abbrev pub account_lines : BookTerms → NameList → List (List Call) → List Words
account_lines b names files = map (account_words b names files) (range_with_len 0 (length b.accounts))

-- how many payments a group has to agree on, and who is in it
abbrev pub group_words : NameList → GroupTerms → Words
group_words names g = decimal g.payments ∷ owner_words names g.owners

-- how many groups there are, and then each
abbrev pub group_lines : NameList → List GroupTerms → List Words
group_lines names groups = count_words (codes "groups") (length groups) ∷ map (group_words names) groups

-- the whole text. How many payments there are and of each kind, a line for each account, a line for each group
abbrev pub kinds_text : BookTerms → NameList → List (List Call) → List ℕ
kinds_text b names files = lines_text (head_lines b files ++ account_lines b names files ++ group_lines names (groups_of b files))
