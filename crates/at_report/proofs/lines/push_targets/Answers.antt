use Rattle.std.proofs.Common.{arith}
use Rattle.at_report.proofs.Prelude.{common_steps}
use Rattle.at_report.proofs.LineLaws.{OnErr-starts_before}
use Rattle.at_report.proofs.lines.push_targets.Goals as goal

pub returns-in_err-push_target-clause-begun : goal.returns-in_err-push_target-clause-begun
returns-in_err-push_target-clause-begun c =
    OnErr-starts_before c.from_residual.result c.push_target.new.out.items c.loop-i.out.items c.args.out.now.items _ c.loop-i.invariant c.in_err-push_target.ensures.begun

pub loop-i-preserved : goal.loop-i-preserved
loop-i-preserved c = grind (arith, common_steps)

pub returns-clause-text : goal.returns-clause-text
returns-clause-text c = grind (arith, common_steps)
