use Rattle.std.proofs.Common.{◌∙◌, sym, refl, arith}
use Rattle.at_files.proofs.LocationLaws.{line_from-begins, line_from-end, line_from-ends, line_from-here, line_from-within}
use Rattle.at_files.proofs.location.line_behind.Goals.{then-begins_line+else-records-eq0, else-begins_line+then-ends_line, else-begins_line+else-ends_line}
use Rattle.at_files.proofs.location.line_behind.Goals as goal

pub loop-byte-preserved : goal.loop-byte-preserved
loop-byte-preserved c =
    let bytes = c.args.bytes.now in
    let inside = c.loop-byte-test.true in
    let few = c.loop-byte.invariant.few in
    elim c.if-begins_line.branch [
      | then-begins_line+else-records-eq0 w ↦ record {
        same = rw (w.records-is, w.line-is, w.last-is)
            (line_from-begins _ _ _ _ bytes inside (sym c.begins_line.ensures ∙ w.if-begins_line.true) w.if-records-eq0.false ∙ c.loop-byte.invariant.same);
        few = omega arith;
      }
      | else-begins_line+then-ends_line w ↦ record {
        same = rw (w.records-is, w.line-is, w.last-is)
            (line_from-ends _ _ _ _ bytes inside (sym c.begins_line.ensures ∙ w.if-begins_line.false) (sym w.ends_line.ensures ∙ w.if-ends_line.true)
            ∙ c.loop-byte.invariant.same);
        few = omega arith;
      }
      | else-begins_line+else-ends_line w ↦ record {
        same = rw (w.records-is, w.line-is, w.last-is)
            (line_from-within _ _ _ _ bytes inside (sym c.begins_line.ensures ∙ w.if-begins_line.false) (sym w.ends_line.ensures ∙ w.if-ends_line.false)
            ∙ c.loop-byte.invariant.same);
        few = omega arith;
      }
    ]

pub returns-then-records-eq0 : goal.returns-then-records-eq0
returns-then-records-eq0 c =
    line_from-here _ _ _ _ c.args.bytes.now c.loop-byte-test.true (sym c.begins_line.ensures ∙ c.if-begins_line.true) c.if-records-eq0.true ∙ c.loop-byte.invariant.same

pub returns-then-is_line_end : goal.returns-then-is_line_end
returns-then-is_line_end c =
    sym (line_from-end c.loop-byte.records c.loop-byte.line _ _ c.args.bytes.now (omega arith) ∙ rw (sym c.is_line_end.ensures ∙ c.if-is_line_end.true) refl) ∙ c.loop-byte.invariant.same

pub returns-else-is_line_end : goal.returns-else-is_line_end
returns-else-is_line_end c =
    sym (line_from-end c.loop-byte.records c.loop-byte.line _ _ c.args.bytes.now (omega arith) ∙ rw (sym c.is_line_end.ensures ∙ c.if-is_line_end.false) refl) ∙ c.loop-byte.invariant.same
