use Rattle.at_report.proofs.Prelude.{common_steps, take_all}
use Rattle.std.proofs.Common.{◌≤◌, ap, sum, length, ◌∙◌, arith}
use Rattle.at_report.proofs.nodes.total_of.Goals as goal

pub returns : goal.returns
returns c =
    let balanced = c.known.ensures.node.steady.balanced in
    let all : length c.args.node.now.balances ≤ c.loop-account.account = grind arith in
    c.loop-account.invariant ∙ ap sum (take_all c.loop-account.account c.args.node.now.balances all)

pub loop-account-preserved : goal.loop-account-preserved
loop-account-preserved c = grind (arith, common_steps)

pub overflow_add-total : goal.overflow_add-total
overflow_add-total c = grind (arith, common_steps)
