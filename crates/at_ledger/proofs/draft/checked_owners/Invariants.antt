use Rattle.std.proofs.Common.{◌≡◌, length, take, drop}
use Rattle.at_ledger.proofs.Prelude.{owners_fault}
use Rattle.at_ledger.proofs.draft.checked_owners.Given as goal

abbrev pub invariant-loop-owner : goal.invariant-loop-owner
invariant-loop-owner l =
    (owners_fault l.processes l.account 0 0 l.owners
    ≡ owners_fault l.processes l.account (length l.list.items) l.least (drop l.owner-index l.owners))
    × (l.list.items ≡ take l.owner-index l.owners)
