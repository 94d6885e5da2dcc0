use Rattle.std.proofs.Common.{arith}
use Rattle.at_report.proofs.Prelude.{common_steps}
use Rattle.at_report.proofs.run_report.write_report.Goals as goal

pub returns : goal.returns
returns g c = grind (arith, common_steps)

pub push_journal-requires : goal.push_journal-requires
push_journal-requires g c = grind (arith, common_steps)
