use Rattle.std.proofs.Common.{ap, sym, ◌∙◌}
use Rattle.at_files.proofs.Prelude.{line_records}
use Rattle.at_files.proofs.LineLaws.{line_records-blank_only, line_records-none}
use Rattle.at_files.proofs.lines.Lines.next.Goals as goal

pub returns-then-is_empty-clause-ok : goal.returns-then-is_empty-clause-ok
returns-then-is_empty-clause-ok c =
    let ended = line_records-blank_only c.replace-rest.result.now c.blank_lines.result (sym c.is_empty.ensures ∙ c.if-is_empty.true) c.blank_lines.ensures.same in
    sym c.self.view_is ∙ ap (λ rest. line_records rest.now) (sym c.replace-rest.ensures.value) ∙ ended

pub returns-in_default-clause-err : goal.returns-in_default-clause-err
returns-in_default-clause-err c = ap (λ rest. line_records rest.now) c.replace-rest.ensures.after ∙ line_records-none
