-- What an entry says: its source, its targets, and whether it moved anything.
use Rattle.std.specs.Prelude.{ℕ, Bool, true, false, ◌&&◌, ◌==◌, List}
use Rattle.at_history.specs.Prelude.{TargetPair}
use Rattle.at_history.specs.declared.publication.Entry.{Entry}
use Rattle.at_history.specs.declared.publication.Entry.TheVariants.{Own, Round}

-- the account that a record takes from
abbrev pub source_of : Entry → ℕ
source_of (Own from targets) = from
source_of (Round account round decision targets) = account

abbrev pub targets_of : Entry → List TargetPair
targets_of (Own from targets) = targets
targets_of (Round account round decision targets) = targets

-- an own record is a success, and a round's is one where its decision says so
abbrev pub is_done : Entry → Bool
is_done (Own from targets) = true
is_done (Round account round decision targets) = decision.ok

-- an own record
abbrev pub is_own : Entry → Bool
is_own (Own from targets) = true
is_own (Round account round decision targets) = false

-- a record of some round of this account
abbrev pub is_round_on : ℕ → Entry → Bool
is_round_on a (Own from targets) = false
is_round_on a (Round account round decision targets) = account == a

-- a record of this round of this account
abbrev pub is_round : ℕ → ℕ → Entry → Bool
is_round a r (Own from targets) = false
is_round a r (Round account round decision targets) = (account == a) && (round == r)

-- records of one round of one account
abbrev pub is_same_round : Entry → Entry → Bool
is_same_round (Own from targets) other = false
is_same_round (Round account round decision targets) other = is_round account round other

-- a record of a round of this account whose decision names this slot
abbrev pub names : ℕ → ℕ → Entry → Bool
names a slot (Own from targets) = false
names a slot (Round account round decision targets) = (account == a) && (decision.slot == slot)

-- a record of a round of this account in which this request is decided
abbrev pub settles : ℕ → ℕ → ℕ → Entry → Bool
settles a slot number (Own from targets) = false
settles a slot number (Round account round decision targets) =
    (account == a) && ((decision.slot == slot) && (decision.number == number))
