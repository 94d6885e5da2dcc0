-- What the groups of the program stand for.
use Rattle.std.specs.Prelude.{ℕ, ◌<◌, List, map, All}
use Rattle.at_tables.specs.Prelude.{BTreeSet}
use Rattle.at_tables.specs.Groups.{GroupTerms}
use Rattle.at_tables.specs.declared.groups.Group.{Group}

-- a group
abbrev pub group_terms : Group → GroupTerms
group_terms g = record { payments = g.payments.0; owners = g.owners.items }

-- the groups of a set, in their order
abbrev pub groups_in : BTreeSet Group → List GroupTerms
groups_in groups = map group_terms groups.keys

-- the owners are processes of so many
abbrev pub AreKnown : ℕ → BTreeSet Group → Type 0
AreKnown processes groups = All (λ g. All (λ owner. owner < processes) g.owners.items) groups.keys
