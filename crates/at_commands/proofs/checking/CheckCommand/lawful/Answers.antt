use Rattle.at_commands.proofs.Laws.Forms.{check_promise-lawful}
use Rattle.at_commands.proofs.checking.CheckCommand.lawful.Goals as goal

pub returns : goal.returns
returns c = check_promise-lawful _
