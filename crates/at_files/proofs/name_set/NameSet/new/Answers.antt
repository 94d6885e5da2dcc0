use Rattle.at_files.proofs.NameSetLaws.{IsNameSet-none}
use Rattle.at_files.proofs.name_set.NameSet.new.Goals as goal

pub invariant_of-result : goal.invariant_of-result
invariant_of-result c = rw c.new.ensures.empty IsNameSet-none
