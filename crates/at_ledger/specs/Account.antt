-- What a book says of one account.
use Rattle.std.specs.Prelude.{ℕ, ◌+◌, ◌*◌, ◌≤◌, ◌==◌, Bool, List, [], ◌∷◌, length, nat_le, Option, is_some, position, if◌then◌else◌}

-- what it opens with, and the processes that may debit it, from the lowest up
pub record AccountTerms : Type 0 where
  pub opening : ℕ
  pub owners : List ℕ

-- an account that no book holds: it has nothing and no owner
abbrev pub no_account : AccountTerms
no_account = record { opening = 0; owners = [] }

-- one owner
abbrev pub is_single : AccountTerms → Bool
is_single t = length t.owners == 1

-- two owners or more
abbrev pub is_shared : AccountTerms → Bool
is_shared t = nat_le 2 (length t.owners)

-- how many owners have slots: all where two or more share the account, and else none
abbrev pub slots_of : AccountTerms → ℕ
slots_of t = if is_shared t then length t.owners else 0

-- the position of a process among the owners, from 0
abbrev pub slot_in : AccountTerms → ℕ → Option ℕ
slot_in t process = position (λ owner. owner == process) t.owners

-- whether the process may debit the account
abbrev pub is_owner_in : AccountTerms → ℕ → Bool
is_owner_in t process = is_some (slot_in t process)

-- how many rounds the account can have: one for each request of each owner, and none where no two share it
abbrev pub rounds_room : ℕ → AccountTerms → ℕ
rounds_room request_room t = if is_shared t then length t.owners * request_room else 0

-- how many of these rounds a process has room for: all of them where it is an owner
abbrev pub rounds_room_of : ℕ → ℕ → AccountTerms → ℕ
rounds_room_of request_room process t = if is_owner_in t process then rounds_room request_room t else 0

-- each owner is above the one before it, and the first is at least `least`
unfoldable pub IsRisingFrom : ℕ → List ℕ → Type 0
IsRisingFrom least [] = Unit {0}
IsRisingFrom least (owner ∷ owners) = (least ≤ owner) × IsRisingFrom (owner + 1) owners
