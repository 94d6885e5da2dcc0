use Rattle.at_report.proofs.Prelude.{common_steps}
use Rattle.std.proofs.Common.{codes, arith}
use Rattle.at_report.proofs.LineLaws.{append-four}
use Rattle.at_report.proofs.refusal.push_usage.Goals as goal

pub returns-in-Files-clause-text : goal.returns-in-Files-clause-text
returns-in-Files-clause-text c =
    rw (c.in-Files.is, c.push_numbered-in-Files.ensures.text, c.push_numbered.ensures.text, c.from.ensures) (append-four _ (codes "files: wanted ") _ (codes ", given ") _)

pub returns-in-Words-clause-short : goal.returns-in-Words-clause-short
returns-in-Words-clause-short c = grind (arith, common_steps)

pub returns-in-Words-clause-text : goal.returns-in-Words-clause-text
returns-in-Words-clause-text c = rw c.in-Words.is c.push_text.ensures
