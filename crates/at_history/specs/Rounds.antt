-- The rounds that a list of publications has, each counted once.
use Rattle.std.specs.Prelude.{ℕ, Bool, ◌&&◌, ◌==◌, List, [], ◌∷◌, ◌++◌, fold, count_by, if◌then◌else◌}
use Rattle.at_history.specs.Prelude.{list_any}
use Rattle.at_history.specs.Entries.{is_own, is_round_on, is_same_round, names, settles}
use Rattle.at_history.specs.declared.publication.Publication.{Publication}

-- whether one of the earlier publications is of the same round
abbrev pub repeats : Publication → List Publication → Bool
repeats x earlier = list_any (λ y. is_same_round x.entry y.entry) earlier

-- a publication is added, unless it repeats a round
abbrev pub with_first : List Publication → Publication → List Publication
with_first earlier x = if repeats x earlier then earlier else earlier ++ x ∷ []

-- each own record, and the first record of each round of each account
unfoldable pub firsts : List Publication → List Publication
firsts list = fold with_first [] list

-- how many distinct rounds of an account the list has
abbrev pub rounds : ℕ → List Publication → ℕ
rounds account list = count_by (λ x. is_round_on account x.entry) (firsts list)

-- how many distinct rounds of an account name a slot
abbrev pub named : ℕ → ℕ → List Publication → ℕ
named account slot list = count_by (λ x. names account slot x.entry) (firsts list)

-- whether a request is settled in a list: a record of the round that decided it stands there
abbrev pub is_settled : ℕ → ℕ → ℕ → List Publication → Bool
is_settled account slot number list = list_any (λ x. settles account slot number x.entry) list

-- how many own records a process has
abbrev pub owns_of : ℕ → List Publication → ℕ
owns_of process list = count_by (λ x. (x.process == process) && is_own x.entry) list
