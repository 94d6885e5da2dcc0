-- The book of a council, and a council as callers see it.
use Rattle.std.specs.Prelude.{◌≡◌, ℕ, ◌+◌, ◌*◌, ◌^◌, ◌-◌, ◌++◌, ◌≤◌, [], ◌∷◌, map, replicate}
use Rattle.at_agree.specs.Prelude.{range_with_len, BoardTerms, AccountTerms, BookTerms}

-- the most that a process can propose
abbrev pub most_value : ℕ
most_value = 2 ^ 32 - 1

-- process p's own account
abbrev pub own_account : ℕ → AccountTerms
own_account p = record { opening = most_value; owners = p ∷ [] }

-- an account that can only be paid into
abbrev pub unowned_account : AccountTerms
unowned_account = record { opening = 0; owners = [] }

-- the account that all k processes share
abbrev pub joint_account : ℕ → AccountTerms
joint_account k = record { opening = 2 * k; owners = range_with_len 0 k }

-- the number of the account that takes what process p proposes
abbrev pub value_account : ℕ → ℕ → ℕ
value_account k p = k + p

-- the number of the account that all share, and of the one that takes what is paid from it
abbrev pub shared_account : ℕ → ℕ
shared_account k = 2 * k

abbrev pub spent_account : ℕ → ℕ
spent_account k = 2 * k + 1

-- the book of a council of k processes: own accounts, value accounts, the shared account, and the one for what is paid from it. A
-- process may pay once from its own account, and ask once for a payment from the shared one
abbrev pub council_book : ℕ → BookTerms
council_book k = record {
  processes = k;
  own_room = 1;
  request_room = 1;
  accounts = map own_account (range_with_len 0 k) ++ replicate k unowned_account ++ joint_account k ∷ unowned_account ∷ [];
}

-- so many processes can agree
pub record IsSize (k : ℕ) : Type 0 where
  pub some : 2 ≤ k
  pub few : k ≤ 8

-- how many processes a council has
abbrev pub size_of : BoardTerms → ℕ
size_of council = council.book.processes

-- the ledger is that of a council
pub record IsCouncil (ledger : BoardTerms) : Type 0 where
  pub size : IsSize (size_of ledger)
  pub book_is : ledger.book ≡ council_book (size_of ledger)
