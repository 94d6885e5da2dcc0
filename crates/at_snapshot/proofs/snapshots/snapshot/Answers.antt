use Rattle.std.proofs.Common.{◌≡◌, ◌+◌, ◌<◌, ◌≤◌, refl, subst, sym, ap, ◌∙◌, arith}
use Rattle.at_snapshot.proofs.Prelude.{BookTerms, Knowledge, IsSnapping, turns_left, IsScanOf, ScanTerms, scan_after, snapshot_steps, view_steps}
use Rattle.at_snapshot.proofs.Laws.Turns.{IsSnapped, IsSnapped-IsSnapping, IsSnapping-Again, IsSnapping-start, turns_left-Again}
use Rattle.at_snapshot.proofs.snapshots.snapshot.Goals as goal

pub loop-counts-init : goal.loop-counts-init
loop-counts-init c =
    let b : BookTerms = c.args.board.now.book in
    let v : Knowledge = c.args.seat.now.knows in
    let so = subst (λ (s : ScanTerms). IsScanOf b s v) c.start-scan.ensures.start (c.start-scan.ensures.scan b) in (
      (0, 0, subst (λ (s : ScanTerms). IsSnapping b v s v 0 0 0) (sym c.start-scan.ensures.start) (IsSnapping-start b v 0 c.known.ensures.seat.own so), omega arith),
      c.requires,
      refl,
    )

pub loop-counts-preserved : goal.loop-counts-preserved
loop-counts-preserved c =
    let b : BookTerms = c.args.board.now.book in
    let begun : Knowledge = c.args.seat.now.knows in
    let w : Knowledge = c.turn.new.seat.knows in
    let scan : ScanTerms = c.loop-counts.scan in
    let turns = c.loop-counts.invariant.0.0 in
    let made = c.loop-counts.invariant.0.1 in
    let more = IsSnapping-Again b begun scan c.loop-counts.seat.knows w 0 made turns (omega (arith, c.known.ensures.seat.one_part))
    c.loop-counts.invariant.0.2 c.turn.ensures.collect c.in-Again.ensures.answer in (
      (
        turns + 1,
        made + b.processes,
        subst (λ (s : ScanTerms). IsSnapping b begun s w 0 (made + b.processes) (turns + 1)) (sym c.turn.ensures.after) more,
        omega (arith, c.in-Again.ensures.steps, c.loop-counts.invariant.0.3),
      ),
      c.turn.ensures.board,
      c.turn.ensures.exchanges ∙ c.loop-counts.invariant.2,
    )

pub loop-counts-smaller : goal.loop-counts-smaller
loop-counts-smaller c =
    let b : BookTerms = c.args.board.now.book in
    let scan : ScanTerms = c.loop-counts.scan in
    subst (λ (s : ScanTerms). turns_left b.processes s.collects < turns_left b.processes scan.collects) (sym c.turn.ensures.after)
    (turns_left-Again b scan.start scan.mark scan.collects c.loop-counts.seat.knows c.turn.new.seat.knows c.loop-counts.invariant.0.2.own c.loop-counts.invariant.0.2.scan_of c.turn.ensures.collect
    c.in-Again.ensures.answer)

-- what holds after the last turn
snapped : (c : goal.After-drop-scan-inside-in-Clean)
    → IsSnapped c.args.board.now.book c.args.seat.now.knows c.turn.new.seat.knows 0
    (c.loop-counts.invariant.0.1 + c.args.board.now.book.processes + view_steps c.args.board.now.book.processes c.turn.result)
snapped c =
    let b : BookTerms = c.args.board.now.book in
    let begun : Knowledge = c.args.seat.now.knows in
    let known : begun.first < b.processes = omega (arith, c.known.ensures.seat.known, ap (λ (t : BookTerms). t.processes) c.requires.book) in
    IsSnapped-IsSnapping b begun c.loop-counts.scan c.loop-counts.seat.knows c.turn.new.seat.knows 0 c.loop-counts.invariant.0.1
    c.loop-counts.invariant.0.0 c.turn.result (omega (arith, c.known.ensures.seat.one_part)) known c.loop-counts.invariant.0.2 c.turn.ensures.collect

pub returns-in-Clean-clause-loads : goal.returns-in-Clean-clause-loads
returns-in-Clean-clause-loads c = (snapped c).loads

pub returns-in-Clean-clause-collects : goal.returns-in-Clean-clause-collects
returns-in-Clean-clause-collects c = (snapped c).collects

pub returns-in-Clean-clause-steps : goal.returns-in-Clean-clause-steps
returns-in-Clean-clause-steps c = omega (arith, c.turn.ensures.steps, c.loop-counts.invariant.0.3, (snapped c).few)

pub returns-in-Clean-clause-risen : goal.returns-in-Clean-clause-risen
returns-in-Clean-clause-risen c = omega (arith, c.turn.ensures.steps, c.loop-counts.invariant.0.3)
