use Rattle.at_commands.proofs.Laws.Claims.{verify_terms-read}
use Rattle.at_commands.proofs.verifying.VerifyingFurther.lawful.Goals as goal

pub returns : goal.returns
returns c = verify_terms-read
