use Rattle.std.proofs.Common.{length, ◌==◌}
use Rattle.at_files.proofs.Prelude.{slice_split}
use Rattle.at_files.proofs.OwnerLaws.{AreRead}
use Rattle.at_files.proofs.owners.read_numbers.Given as goal

abbrev pub invariant-loop-piece : goal.invariant-loop-piece
invariant-loop-piece l = AreRead (slice_split (λ byte. byte == 32) l.text) l.numbers.items (length l.yielded)
