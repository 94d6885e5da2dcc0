use Rattle.at_commands.proofs.Laws.Forms.{form_promise-lawful}
use Rattle.at_commands.proofs.Laws.SpelledLoaded.{Accepts-payments}
use Rattle.at_commands.proofs.running.RunCommand.lawful.Goals as goal

pub returns : goal.returns
returns c = form_promise-lawful _ _ _ _ _ Accepts-payments
