use Rattle.std.proofs.Common.{◌≡◌, ◌<◌, Option, Some, ap, subst, sym, ◌∙◌, arith}
use Rattle.at_snapshot.proofs.Prelude.{BookTerms, SeatTerms, Knowledge, collect_of, IsScanOf, ScanTerms, SeesOwnRecords, collects_after, scan_after, IsSnapshot, OnCounts, IsVerdictOn, answer_of, Collects, Verdict, Turn}
use Rattle.at_snapshot.proofs.Laws.Scans.{IsScanOf-after}
use Rattle.at_snapshot.proofs.Laws.Verdicts.{IsAnswer-IsVerdictOn, OnCounts-IsAnswer}
use Rattle.at_snapshot.proofs.scan.Scan.turn.Goals as goal

-- a scan by its parts
IsScanOf-parts : (b : BookTerms) (scan : ScanTerms) (w start mark : Knowledge) (collects : Option Collects) → start ≡ scan.start → mark ≡ w
    → collects ≡ Some (collects_after scan.collects (collect_of w)) → IsScanOf b (scan_after scan w) w
    → IsScanOf b (record { start = start; mark = mark; collects = collects }) w
IsScanOf-parts b scan w start mark collects one two three of =
    let same : (λ (s : ScanTerms). s) (record { start = start; mark = mark; collects = collects }) ≡ scan_after scan w =
    λ i. record { start = one i; mark = two i; collects = three i } in
    subst (λ (s : ScanTerms). IsScanOf b s w) (sym same) of

pub returns-clause-scan : goal.returns-clause-scan
returns-clause-scan c =
    let b : BookTerms = c.args.board.now.book in
    let scan : ScanTerms = c.args.self.now in
    let w : Knowledge = c.collect-now.new.seat.knows in
    let start : Knowledge = c.self.inside.start.value.knows in
    let mark : Knowledge = c.of.result.value.knows in
    let same : c.self.inside.collects ≡ scan.collects = ap (λ (s : ScanTerms). s.collects) c.self.view_is in
    let more : c.add_collect.new.collects ≡ Some (collects_after scan.collects (collect_of w)) =
    c.add_collect.ensures
    ∙ (ap (λ (cs : Option Collects). Some (collects_after cs c.collect-now.result)) same
    ∙ ap (λ xs. Some (collects_after scan.collects xs)) c.collect-now.ensures.counts) in
    subst (λ (s : SeatTerms). IsScanOf b (record { start = start; mark = mark; collects = c.add_collect.new.collects }) s.knows) (sym c.answer-answer.ensures.same)
    (IsScanOf-parts b scan w start mark c.add_collect.new.collects (ap (λ (s : ScanTerms). s.start) c.self.view_is)
    (ap (λ (s : SeatTerms). s.knows) c.of.ensures) more
    (IsScanOf-after b scan c.args.seat.now.knows w (omega (arith, c.known.ensures.seat.one_part)) c.requires.scan c.collect-now.ensures.collect))

pub returns-clause-snapshot : goal.returns-clause-snapshot
returns-clause-snapshot c =
    let b : BookTerms = c.args.board.now.book in
    let scan : ScanTerms = c.args.self.now in
    let v : Knowledge = c.args.seat.now.knows in
    let w : Knowledge = c.collect-now.new.seat.knows in
    let verdict : Verdict = c.compare-verdict.result in
    let known : v.first < b.processes = omega (arith, c.known.ensures.seat.known, ap (λ (t : BookTerms). t.processes) c.requires.board.book) in
    let own : SeesOwnRecords scan.start = subst (λ (s : ScanTerms). SeesOwnRecords s.start) c.self.view_is c.self.invariant in
    let same : c.self.inside.collects ≡ scan.collects = ap (λ (s : ScanTerms). s.collects) c.self.view_is in
    let says : IsVerdictOn scan.collects w.first (collect_of w) verdict =
    subst (λ (cs : Option Collects). IsVerdictOn cs w.first (collect_of w) verdict) same
    (subst (λ xs. IsVerdictOn c.self.inside.collects w.first xs verdict) c.collect-now.ensures.counts
    (subst (λ p. IsVerdictOn c.self.inside.collects p c.collect-now.result verdict) c.process.ensures.process c.compare-verdict.ensures)) in
    let answered : c.answer-answer.result ≡ answer_of verdict w (collect_of w) =
    c.answer-answer.ensures.answer ∙ ap (answer_of verdict w) c.collect-now.ensures.counts in
    subst (λ (s : SeatTerms). OnCounts c.answer-answer.result (IsSnapshot b scan.start s.knows)) (sym c.answer-answer.ensures.same)
    (subst (λ (t : Turn). OnCounts t (IsSnapshot b scan.start w)) (sym answered)
    (OnCounts-IsAnswer b scan.start scan.mark scan.collects v w (answer_of verdict w (collect_of w)) own c.requires.scan known c.collect-now.ensures.collect
    (IsAnswer-IsVerdictOn scan.start scan.mark scan.collects w verdict says)))
