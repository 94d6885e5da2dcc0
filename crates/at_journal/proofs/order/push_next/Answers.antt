use Rattle.at_journal.proofs.Prelude.{common_steps, records_of_process}
use Rattle.std.proofs.Common.{◌++◌, get_or, ◌∙◌, arith}
use Rattle.at_journal.proofs.OrderedLaws.{pushed-flat_range}
use Rattle.at_journal.proofs.order.push_next.Goals as goal

pub loop-p-preserved : goal.loop-p-preserved
loop-p-preserved c =
    let p = c.loop-p.p in
    let old = c.loop-p.order.items in
    c.in_ok-push_records.ensures
    ∙ ((λ t. old ++ records_of_process p ((c.from.ensures ∙ c.get.ensures) t) ((c.from-in-loop-p.ensures ∙ c.get-in-loop-p.ensures) t))
    ∙ pushed-flat_range (λ q. records_of_process q (get_or c.args.listed.now q 0) (get_or c.args.cut.now q 0)) c.args.order.now.items old p c.loop-p.invariant)

pub returns : goal.returns
returns c = grind (arith, common_steps)
