use Rattle.std.proofs.Common.{◌≡◌, ◌<◌, All, take}
use Rattle.at_tables.proofs.Prelude.{account_of}
use Rattle.at_tables.proofs.groups.owners_of.Given as goal

abbrev pub invariant-loop-slot : goal.invariant-loop-slot
invariant-loop-slot l = record {
  owners : l.owners.items ≡ take l.slot (account_of l.book l.account).owners;
  known : All (λ owner. owner < l.book.processes) l.owners.items;
}
