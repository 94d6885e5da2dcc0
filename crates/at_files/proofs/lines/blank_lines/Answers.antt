use Rattle.std.proofs.Common.{sym, ◌∙◌}
use Rattle.at_files.proofs.LineLaws.{line_records-drop}
use Rattle.at_files.proofs.lines.blank_lines.Goals as goal

pub loop-i-preserved : goal.loop-i-preserved
loop-i-preserved c = sym (line_records-drop c.args.text.now c.loop-i.i c.loop-i-test.true c.if-not-blank.false) ∙ c.loop-i.invariant
