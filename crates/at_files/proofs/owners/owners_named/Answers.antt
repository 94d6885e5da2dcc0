use Rattle.std.proofs.Common.{Ok, sym, ap, ◌∙◌, arith}
use Rattle.at_files.proofs.Prelude.{common_steps}
use Rattle.at_files.proofs.OwnerNames.{owners_named-empty}
use Rattle.at_files.proofs.owners.owners_named.Goals as goal

pub returns-then-is_empty-clause-ok : goal.returns-then-is_empty-clause-ok
returns-then-is_empty-clause-ok c = owners_named-empty c.args.processes.now c.args.account c.args.text.now (sym c.is_empty.ensures ∙ c.if-is_empty.true) ∙ ap Ok (sym c.new.ensures.items)

pub returns-else-is_empty-clause-ok : goal.returns-else-is_empty-clause-ok
returns-else-is_empty-clause-ok c = grind (arith, common_steps)

pub returns-else-is_empty-clause-bad : goal.returns-else-is_empty-clause-bad
returns-else-is_empty-clause-bad c = grind (arith, common_steps)
