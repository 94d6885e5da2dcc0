use Rattle.at_commands.proofs.Laws.Replays.{turns_terms-read}
use Rattle.at_commands.proofs.replaying.InTurnsFurther.lawful.Goals as goal

pub returns : goal.returns
returns g c = turns_terms-read g.T.TurnsText.prints
