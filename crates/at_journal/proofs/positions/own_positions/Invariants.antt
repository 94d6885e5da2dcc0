use Rattle.std.proofs.Common.{map}
use Rattle.at_journal.proofs.OwnPositions.{HasFound}
use Rattle.at_journal.proofs.positions.own_positions.Given as goal

abbrev pub invariant-loop-position : goal.invariant-loop-position
invariant-loop-position l = HasFound l.processes l.order l.position (map (λ v. v.items) l.lists.items)
