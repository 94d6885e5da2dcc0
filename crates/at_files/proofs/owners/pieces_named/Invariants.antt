use Rattle.std.proofs.Common.{length, ◌==◌}
use Rattle.at_files.proofs.Prelude.{slice_split}
use Rattle.at_files.proofs.OwnerNames.{AreNamed}
use Rattle.at_files.proofs.owners.pieces_named.Given as goal

abbrev pub invariant-loop-piece : goal.invariant-loop-piece
invariant-loop-piece l = AreNamed l.processes l.account (slice_split (λ byte. byte == 32) l.text) l.owners.items l.least (length l.yielded)
