use Rattle.std.proofs.Common.{◌≡◌, ◌∙◌, ◌++◌}
use Rattle.at_report.proofs.Prelude.{line_text, node_balance_words}
use Rattle.at_report.proofs.LineLaws.{lines_text-map_more}
use Rattle.at_report.proofs.nodes.push_balances.Goals as goal

pub loop-account-preserved : goal.loop-account-preserved
loop-account-preserved c =
    let words = node_balance_words c.args.node.now in
    let line : c.push_numbered.new.out.items ≡ c.loop-account.out.items ++ line_text (words c.loop-account.account) =
    rw (← c.format.ensures.text, ← c.as_bytes.ensures.value, ← c.balance.ensures.kept) c.in_ok-push_numbered.ensures.text in
    line ∙ rw c.loop-account.invariant (lines_text-map_more words c.args.out.now.items c.loop-account.account)
