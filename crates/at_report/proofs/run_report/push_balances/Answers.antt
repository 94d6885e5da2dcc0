use Rattle.at_report.proofs.Prelude.{common_steps, line_text, balance_words}
use Rattle.std.proofs.Common.{◌≡◌, ◌∙◌, ◌++◌, arith}
use Rattle.at_report.proofs.LineLaws.{lines_text-map_more, OnErr-starts_before}
use Rattle.at_report.proofs.run_report.push_balances.Goals as goal

pub loop-account-preserved : goal.loop-account-preserved
loop-account-preserved c =
    let words = balance_words c.args.names.now c.args.state.now in
    let line : c.push_numbered.new.out.items ≡ c.loop-account.out.items ++ line_text (words c.loop-account.account) =
    rw (← c.account.ensures.name, ← c.balance.ensures.balance) c.in_ok-push_numbered.ensures.text in
    line ∙ rw c.loop-account.invariant (lines_text-map_more words c.args.out.now.items c.loop-account.account)

pub returns-in_err-push_numbered-clause-begun : goal.returns-in_err-push_numbered-clause-begun
returns-in_err-push_numbered-clause-begun c =
    OnErr-starts_before c.from_residual.result c.push_numbered.new.out.items c.loop-account.out.items c.args.out.now.items _ c.loop-account.invariant
    c.in_err-push_numbered.ensures.begun

pub returns-clause-text : goal.returns-clause-text
returns-clause-text c = grind (arith, common_steps)
