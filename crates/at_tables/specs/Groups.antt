-- The groups: sets of owners that have payments to agree on.
use Rattle.std.specs.Prelude.{◌≡◌, ℕ, ◌<◌, All, Contains, Bool, ◌&&◌, bytes_eq, List, [], fold, map, nat_lt, if◌then◌else◌}
use Rattle.at_tables.specs.Prelude.{Ordering, nat_cmp, ordering_then, slice_cmp, insert_key, IsStrictlySortedBy, first_account, AccountTerms, BookTerms, account_of, Call}
use Rattle.at_tables.specs.Kinds.{count_in, is_agreed_kind, kind_of}

-- a set of owners, and how many payments they have to agree on
pub record GroupTerms : Type 0 where
  pub payments : ℕ
  pub owners : List ℕ

-- the process's call is a payment that just these owners have to agree on
abbrev pub is_agreed_by : List ℕ → BookTerms → ℕ → Call → Bool
is_agreed_by owners b process call = is_agreed_kind (kind_of b process call) && bytes_eq (account_of b (first_account call)).owners owners

-- the owners of an account, and how many payments of the files they have to agree on
abbrev pub group_of_owners : BookTerms → List (List Call) → AccountTerms → GroupTerms
group_of_owners b files t = record { payments = count_in (is_agreed_by t.owners b) files; owners = t.owners }

-- more payments come before fewer, and as many in the order of the owners
abbrev pub group_cmp : GroupTerms → GroupTerms → Ordering
group_cmp g h = ordering_then (nat_cmp h.payments g.payments) (slice_cmp nat_cmp g.owners h.owners)

-- these groups, and one more in its place, if it has a payment and isn't there
abbrev pub with_group : List GroupTerms → GroupTerms → List GroupTerms
with_group groups g = if nat_lt 0 g.payments then insert_key group_cmp groups g else groups

-- the groups of some accounts, each once
abbrev pub groups_among : BookTerms → List (List Call) → List AccountTerms → List GroupTerms
groups_among b files accounts = fold with_group [] (map (group_of_owners b files) accounts)

-- the groups of the book
abbrev pub groups_of : BookTerms → List (List Call) → List GroupTerms
groups_of b files = groups_among b files b.accounts

-- each has a payment, and as many as the files have for just its owners; each stands before those after it, so none is there
-- twice; and all owners that have a payment to agree on are there
pub record AreGroups (b : BookTerms) (files : List (List Call)) (groups : List GroupTerms) : Type 0 where
  pub counted : All (λ g. (0 < g.payments) × (g.payments ≡ count_in (is_agreed_by g.owners b) files)) groups
  pub ordered : IsStrictlySortedBy group_cmp groups
  pub all : (owners : List ℕ) → 0 < count_in (is_agreed_by owners b) files
      → Contains groups (record { payments = count_in (is_agreed_by owners b) files; owners = owners })
