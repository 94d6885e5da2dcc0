-- What the postings of a journal add up to, and what they make of each account.
use Rattle.std.specs.Prelude.{◌≡◌, ℕ, ◌+◌, ◌<◌, ◌==◌, Bool, false, ℤ, pos, ◌+ℤ◌, ◌-ℤ◌, List, [], ◌∷◌, filter, flat_map, length, take, slice_index_or, All, None, Some}
use Rattle.at_tables.specs.Prelude.{BookTerms, total_of, LedgerState, balance_of}
use Rattle.at_tables.specs.Entries.{Posting, Posts, TakesRest, Transaction, JournalEntry, Enters, Comments}
use Rattle.at_tables.specs.declared.posting.Amount.TheVariants.{Plus, Minus}

-- what a posting adds to its account. What `equity:openings` takes is all that the accounts open with
abbrev pub worth : BookTerms → Posting → ℤ
worth b (Posts account (Plus n) asserted) = pos n
worth b (Posts account (Minus n) asserted) = pos 0 -ℤ pos n
worth b TakesRest = pos 0 -ℤ pos (total_of b)

-- what postings add up to
unfoldable pub total_posted : BookTerms → List Posting → ℤ
total_posted b [] = pos 0
total_posted b (p ∷ ps) = worth b p +ℤ total_posted b ps

-- whether it is a posting to this account of the book
abbrev pub is_posted_to : ℕ → Posting → Bool
is_posted_to a (Posts account amount asserted) = account == a
is_posted_to a TakesRest = false

-- the balance that postings make of an account, from nothing
abbrev pub made_of : BookTerms → ℕ → List Posting → ℤ
made_of b a ps = total_posted b (filter (is_posted_to a) ps)

-- the transactions among entries, in order: comments are none
abbrev pub transaction_in : JournalEntry → List Transaction
transaction_in (Enters t) = t ∷ []
transaction_in (Comments l) = []

abbrev pub transactions_in : List JournalEntry → List Transaction
transactions_in entries = flat_map transaction_in entries

-- the postings of all transactions, in order
abbrev pub postings_in : List JournalEntry → List Posting
postings_in entries = flat_map (λ t. t.postings) (transactions_in entries)

-- each transaction adds up to 0
abbrev pub AddUp : BookTerms → List JournalEntry → Type 0
AddUp b entries = All (λ t. total_posted b t.postings ≡ pos 0) (transactions_in entries)

-- what a posting asserts, if anything, is the balance that these postings make of its account
abbrev pub IsAsserted : BookTerms → List Posting → Posting → Type 0
IsAsserted b ps (Posts account amount (Some balance)) = made_of b account ps ≡ pos balance
IsAsserted b ps (Posts account amount None) = Unit {0}
IsAsserted b ps TakesRest = Unit {0}

-- each assertion is the balance that the postings up to it make of its account
abbrev pub AreAsserted : BookTerms → List Posting → Type 0
AreAsserted b ps = (i : ℕ) → i < length ps → IsAsserted b (take (i + 1) ps) (slice_index_or ps i TakesRest)

-- postings make of each account its balance of this state
abbrev pub MakeBalances : BookTerms → LedgerState → List Posting → Type 0
MakeBalances b s ps = (a : ℕ) → a < length b.accounts → made_of b a ps ≡ pos (balance_of s a)
