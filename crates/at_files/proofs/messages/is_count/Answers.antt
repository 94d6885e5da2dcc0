use Rattle.std.proofs.Common.{refl}
use Rattle.at_files.proofs.messages.is_count.Goals as goal

pub returns : goal.returns
returns c = rw c.from.ensures refl
