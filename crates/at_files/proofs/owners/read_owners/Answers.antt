use Rattle.std.proofs.Common.{sym, ap, ◌∙◌, Some, arith}
use Rattle.at_files.proofs.Prelude.{common_steps}
use Rattle.at_files.proofs.OwnerLaws.{numbers_of-empty}
use Rattle.at_files.proofs.owners.read_owners.Goals as goal

pub returns-then-is_empty : goal.returns-then-is_empty
returns-then-is_empty c = ap Some c.new.ensures.items ∙ sym (numbers_of-empty c.args.text.now (sym c.is_empty.ensures ∙ c.if-is_empty.true))

pub returns-else-is_empty : goal.returns-else-is_empty
returns-else-is_empty c = grind (arith, common_steps)
