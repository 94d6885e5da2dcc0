use Rattle.std.proofs.Common.{refl}
use Rattle.at_commands.proofs.Laws.MayRefuse.{later-kept}
use Rattle.at_commands.proofs.ending.end_keeping.Goals as goal

pub returns-in-Ok : goal.returns-in-Ok
returns-in-Ok g c =
    let written = c.write_pieces.ensures in
    record {
      later = written.later;
      as_told = written.as_told;
      ends = rw c.in-Ok.is (rw c.as_slice.ensures at written.wrote);
      kept = rw c.in-Ok.is refl;
      untouched = rw c.in-Ok.is tt;
    }

pub returns-in-Err : goal.returns-in-Err
returns-in-Err g c = record { later = later-kept _ _ refl; as_told = refl; ends = rw c.in-Err.is refl; kept = rw c.in-Err.is tt; untouched = rw c.in-Err.is (refl, refl) }
