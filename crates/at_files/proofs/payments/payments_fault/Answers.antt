use Rattle.std.proofs.Common.{refl}
use Rattle.at_files.proofs.payments.payments_fault.Goals as goal

pub returns : goal.returns
returns c = refl
