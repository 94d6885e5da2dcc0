use Rattle.std.proofs.Common.{sym, ◌∙◌}
use Rattle.at_files.proofs.LineLaws.{strip_bom-empty, strip_bom-unmarked}
use Rattle.at_files.proofs.records.is_unmarked.Goals as goal

pub returns-then-is_empty : goal.returns-then-is_empty
returns-then-is_empty c = λ empty. strip_bom-empty c.args.bytes.now (sym c.is_empty.ensures ∙ empty)

pub returns-else-is_empty : goal.returns-else-is_empty
returns-else-is_empty c = λ other. strip_bom-unmarked c.args.bytes.now other
