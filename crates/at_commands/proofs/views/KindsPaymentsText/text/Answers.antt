use Rattle.at_commands.proofs.Laws.Forms.{IsPlayable-loaded}
use Rattle.at_commands.proofs.views.KindsPaymentsText.text.Goals as goal

pub kinds-requires-clause-files : goal.kinds-requires-clause-files
kinds-requires-clause-files g c = rw c.as_slice.ensures.value (IsPlayable-loaded c.args.loaded c.requires)
