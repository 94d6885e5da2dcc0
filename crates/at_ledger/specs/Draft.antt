-- The walk over a draft that finds its first fault, and the book that a draft without one gives.
use Rattle.std.specs.Prelude.{ℕ, ◌+◌, ◌^◌, ◌++◌, Bool, ◌&&◌, ◌==◌, List, [], ◌∷◌, length, map, nat_lt, nat_le, Option, Some, None, if◌then◌else◌}
use Rattle.at_ledger.specs.Prelude.{option_or}
use Rattle.at_ledger.specs.Account.{AccountTerms, rounds_room}
use Rattle.at_ledger.specs.Book.{BookTerms, rounds_of, total_of}
use Rattle.at_ledger.specs.declared.draft.Draft.{Draft}
use Rattle.at_ledger.specs.declared.draft.DraftAccount.{DraftAccount}
use Rattle.at_ledger.specs.declared.draft.BookError.{BookError}
use Rattle.at_ledger.specs.declared.draft.BookError.TheVariants.{NoProcess, TooManyProcesses, NoAccount, TooManyAccounts, OwnerOutOfRange, OwnersNotRising, TooManyOwners, RoomOutOfRange, RoundsOverLimit, TotalOverLimit}
use Rattle.at_ledger.specs.Limits.{most_accounts, most_own_room, most_owners, most_processes, most_request_room, most_rounds}

-- whether a number is from 1 to `most`
abbrev pub is_within : ℕ → ℕ → Bool
is_within most n = nat_le 1 n && nat_le n most

-- no process, too many of them, or a room out of range, in this order
abbrev pub limits_fault : ℕ → ℕ → ℕ → Option BookError
limits_fault processes own_room request_room =
    if processes == 0 then Some NoProcess
    else if nat_lt most_processes processes then Some TooManyProcesses
    else if is_within most_own_room own_room && is_within most_request_room request_room then None
    else Some RoomOutOfRange

-- why this owner can't follow `count` owners, where the next one has to be at least `least`. In this order: out of range, not rising, the
-- ninth
abbrev pub owner_fault : ℕ → ℕ → ℕ → ℕ → ℕ → Option BookError
owner_fault processes account count least owner =
    if nat_le processes owner then Some (OwnerOutOfRange account)
    else if nat_lt owner least then Some (OwnersNotRising account)
    else if nat_le most_owners count then Some (TooManyOwners account)
    else None

-- the first fault of the owners, from left to right
unfoldable pub owners_fault : ℕ → ℕ → ℕ → ℕ → List ℕ → Option BookError
owners_fault processes account count least [] = None
owners_fault processes account count least (owner ∷ owners) =
    option_or (owner_fault processes account count least owner) (owners_fault processes account (count + 1) (owner + 1) owners)

-- with this account the rounds, or the openings, pass their limit
abbrev pub sums_fault : BookTerms → AccountTerms → Option BookError
sums_fault b t =
    if nat_lt most_rounds (rounds_of b + rounds_room b.request_room t) then Some (RoundsOverLimit (length b.accounts))
    else if nat_le (2 ^ 64) (total_of b + t.opening) then Some (TotalOverLimit (length b.accounts))
    else None

-- why this account can't follow those that the book has so far. In this order: too many accounts, its owners from left to right, the rounds,
-- the total
abbrev pub account_fault : BookTerms → AccountTerms → Option BookError
account_fault b t =
    if nat_le most_accounts (length b.accounts) then Some TooManyAccounts
    else option_or (owners_fault b.processes (length b.accounts) 0 0 t.owners) (sums_fault b t)

-- an account that opens with so much and has these owners
abbrev pub terms_with : ℕ → List ℕ → AccountTerms
terms_with opening owners = record { opening = opening; owners = owners }

-- the book with one more account
abbrev pub with_account : BookTerms → AccountTerms → BookTerms
with_account b t = record b { accounts = b.accounts ++ t ∷ [] }

-- the first fault of the accounts that follow those of the book so far
unfoldable pub accounts_fault : BookTerms → List AccountTerms → Option BookError
accounts_fault b [] = if length b.accounts == 0 then Some NoAccount else None
accounts_fault b (t ∷ ts) = option_or (account_fault b t) (accounts_fault (with_account b t) ts)

-- a book with these limits and no account yet
abbrev pub book_without_accounts : ℕ → ℕ → ℕ → BookTerms
book_without_accounts processes own_room request_room =
    record { processes = processes; own_room = own_room; request_room = request_room; accounts = [] }

-- what a drafted account says
abbrev pub terms_of : DraftAccount → AccountTerms
terms_of a = terms_with a.opening a.owners.items

-- the first fault of a draft: its limits, and then its accounts in turn. Last comes that there is no account
abbrev pub book_fault : Draft → Option BookError
book_fault d =
    option_or (limits_fault d.processes d.own_room d.request_room)
    (accounts_fault (book_without_accounts d.processes d.own_room d.request_room) (map terms_of d.accounts.items))

-- the book that a draft spells
abbrev pub book_of : Draft → BookTerms
book_of d = record { processes = d.processes; own_room = d.own_room; request_room = d.request_room; accounts = map terms_of d.accounts.items }
