use Rattle.std.proofs.Common.{◌≡◌, length, arith}
use Rattle.at_files.proofs.Prelude.{texts_of}
use Rattle.at_files.proofs.LineLaws.{IsSplit-begins, IsSplit-comma, IsSplit-copies, line_records-end, line_records-newline, texts_of-more}
use Rattle.at_files.proofs.lines.split_line.Goals.{then-text-i-le44+then-text-i-eq44+in_ok-push, then-text-i-le44+else-text-i-eq44+else-text-i-eq10, else-text-i-le44}
use Rattle.at_files.proofs.lines.split_line.Goals as goal

pub loop-i-init : goal.loop-i-init
loop-i-init c = (c.requires.plain, rw c.requires.none (IsSplit-begins c.args.text.now c.requires.plain c.requires.some c.requires.first))

pub returns-then-text-i-eq10-clause-split : goal.returns-then-text-i-eq10-clause-split
returns-then-text-i-eq10-clause-split c =
    rw (c.in_ok-push-2.ensures.items, texts_of-more c.loop-i.slices.items _)
    (line_records-newline c.args.text.now (texts_of c.loop-i.slices.items) c.loop-i.start c.loop-i.i c.loop-i-test.true c.if-text-i-eq10.true c.loop-i.invariant.1)

pub loop-i-preserved : goal.loop-i-preserved
loop-i-preserved c =
    let text = c.args.text.now in
    let plain = c.loop-i.invariant.0 in
    let split = c.loop-i.invariant.1 in
    let inside = c.loop-i-test.true in
    let fields = texts_of c.loop-i.slices.items in
    elim c.if-text-i-le44.branch [
      | then-text-i-le44+then-text-i-eq44+in_ok-push w ↦ (
        plain,
        rw (w.slices-is, w.start-is, w.in_ok-push.ensures.items, texts_of-more c.loop-i.slices.items _)
            (IsSplit-comma text fields c.loop-i.start c.loop-i.i plain inside w.if-text-i-eq44.true split),
      )
      | then-text-i-le44+else-text-i-eq44+else-text-i-eq10 w ↦ (
        plain,
        rw (w.slices-is, w.start-is)
            (IsSplit-copies text fields c.loop-i.start c.loop-i.i plain inside w.if-text-i-eq44.false w.if-text-i-eq10.false split),
      )
      | else-text-i-le44 w ↦ (
        plain,
        rw (w.slices-is, w.start-is)
            (IsSplit-copies text fields c.loop-i.start c.loop-i.i plain inside (λ is. omega (arith, is, w.if-text-i-le44.false)) (λ is. omega (arith, is, w.if-text-i-le44.false)) split),
      )
    ]

pub returns-clause-split : goal.returns-clause-split
returns-clause-split c =
    let ended : c.loop-i.i ≡ length c.args.text.now = omega (arith, c.loop-i-test.false, c.loop-i.auto.i-end) in
    let split = rw ended at c.loop-i.invariant.1 in
    rw (c.in_ok-push-3.ensures.items, texts_of-more c.loop-i.slices.items _)
    (line_records-end c.args.text.now (texts_of c.loop-i.slices.items) c.loop-i.start split)
