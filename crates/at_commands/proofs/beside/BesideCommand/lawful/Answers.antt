use Rattle.at_commands.proofs.Laws.Forms.{further_promise-lawful}
use Rattle.at_commands.proofs.beside.BesideCommand.lawful.Goals as goal

pub returns : goal.returns
returns g c = further_promise-lawful _ _ _ _ _ c.lawful.ensures
