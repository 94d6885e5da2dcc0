use Rattle.std.proofs.Common.{◌∙◌, ap}
use Rattle.at_broadcast.proofs.Prelude.{filled}
use Rattle.at_broadcast.proofs.FilledLaws.{filled-none}
use Rattle.at_broadcast.proofs.delivered.Delivered.new.Goals as goal

pub returns : goal.returns
returns c = ap filled c.new.ensures.items ∙ filled-none
