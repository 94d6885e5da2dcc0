use Rattle.at_commands.proofs.Deliveries.{deliver_terms-read}
use Rattle.at_commands.proofs.delivering.DeliveringFurther.lawful.Goals as goal

pub returns : goal.returns
returns c = deliver_terms-read
