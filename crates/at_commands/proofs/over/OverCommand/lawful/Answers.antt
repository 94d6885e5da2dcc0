use Rattle.at_commands.proofs.Laws.Forms.{form_promise-lawful}
use Rattle.at_commands.proofs.Laws.SpelledLoaded.{Accepts-payments}
use Rattle.at_commands.proofs.over.OverCommand.lawful.Goals as goal

pub returns : goal.returns
returns g c = form_promise-lawful _ _ _ _ _ Accepts-payments
