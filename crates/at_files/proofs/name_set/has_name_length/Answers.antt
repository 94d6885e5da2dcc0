use Rattle.std.proofs.Common.{refl}
use Rattle.at_files.proofs.name_set.has_name_length.Goals as goal

pub returns : goal.returns
returns c = refl
