use Rattle.at_base.proofs.NumberLaws.{number_of-exact}
use Rattle.at_base.proofs.numbers.parse_number.Goals as goal

pub returns-clause-exact : goal.returns-clause-exact
returns-clause-exact c = λ n h. rw c.number_in.ensures (number_of-exact c.args.text.now n h)
