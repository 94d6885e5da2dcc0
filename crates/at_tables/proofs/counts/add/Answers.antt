use Rattle.std.proofs.Common.{arith}
use Rattle.at_tables.proofs.Prelude.{common_steps}
use Rattle.at_tables.proofs.counts.add.Goals as goal

pub returns-in-Agreed : goal.returns-in-Agreed
returns-in-Agreed c = grind (arith, common_steps)

pub returns-in-Alone : goal.returns-in-Alone
returns-in-Alone c = grind (arith, common_steps)

pub add_by_owner-requires-in-Agreed-clause-account_in : goal.add_by_owner-requires-in-Agreed-clause-account_in
add_by_owner-requires-in-Agreed-clause-account_in c = grind (arith, common_steps)

pub add_by_owner-requires-clause-account_in : goal.add_by_owner-requires-clause-account_in
add_by_owner-requires-clause-account_in c = grind (arith, common_steps)

pub add_by_owner-requires-in-Agreed-clause-fits : goal.add_by_owner-requires-in-Agreed-clause-fits
add_by_owner-requires-in-Agreed-clause-fits c = grind (arith, common_steps)

pub add_by_owner-requires-clause-fits : goal.add_by_owner-requires-clause-fits
add_by_owner-requires-clause-fits c = grind (arith, common_steps)

pub returns-in-Refused : goal.returns-in-Refused
returns-in-Refused c = grind (arith, common_steps)

pub returns-in-Read : goal.returns-in-Read
returns-in-Read c = grind (arith, common_steps)
