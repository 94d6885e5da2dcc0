use Rattle.std.proofs.Common.{codes}
use Rattle.at_report.proofs.NodeTexts.{line_text-words}
use Rattle.at_report.proofs.nodes.push_validated.Goals as goal

pub returns : goal.returns
returns c =
    rw (c.in_ok-push.ensures.items, c.in_ok-push_counts.ensures, c.in_ok-extend_from_slice.ensures.items) (line_text-words _ (codes "validated") _)
