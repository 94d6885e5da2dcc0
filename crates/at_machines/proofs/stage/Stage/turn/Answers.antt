use Rattle.std.proofs.Common.{ℕ, ◌≡◌, ◌≢◌, ◌+◌, ◌<◌, List, Option, None, length, get_or, true, false, refl, ap, subst, sym, ◌∙◌, arith}
use Rattle.at_machines.proofs.Prelude.{common_steps, BookTerms, SeatTerms, Knowledge, length-collect_of, IsCollect, IsVerdictOn, CollectingTerms, LoadsLengthOf, collecting_after, IsSnappingSo, LeadsTo, TurnsStage, Stage, Collect}
use Rattle.at_machines.proofs.SnappingLaws.{TurnsStage-judge, TurnsStage-load}
use Rattle.at_machines.proofs.stage.Stage.turn.Goals.{After-turn}
use Rattle.at_machines.proofs.stage.Stage.turn.Goals as goal

-- the snapshot before the turn
before : (c : After-turn) (start : Knowledge) → IsSnappingSo start c.args.seat.now.knows c.args.collects.now c.args.collected.now c.args.self.now
    → IsSnappingSo start c.args.seat.now.knows c.args.collects.now c.args.collected.now (Collect c.in-Collect.collecting)
before c start so = subst (IsSnappingSo start c.args.seat.now.knows c.args.collects.now c.args.collected.now) c.in-Collect.is so

-- its seat is the board's
book : (c : After-turn) (start : Knowledge) → IsSnappingSo start c.args.seat.now.knows c.args.collects.now c.args.collected.now c.args.self.now
    → c.args.board.now.book ≡ start.book
book c start so = sym c.requires.board.book ∙ so.book

-- the load that was made
load : (c : After-turn) (start : Knowledge) → IsSnappingSo start c.args.seat.now.knows c.args.collects.now c.args.collected.now c.args.self.now
    → LoadsLengthOf start.book c.args.seat.now.knows c.turn.new.seat.knows c.in-Collect.collecting.loaded
load c start so =
    subst (λ (b : BookTerms). LoadsLengthOf b c.args.seat.now.knows c.turn.new.seat.knows c.in-Collect.collecting.loaded) (book c start so) c.turn.ensures.load

pub returns-in_err-now-in-Collect-clause-turns : goal.returns-in_err-now-in-Collect-clause-turns
returns-in_err-now-in-Collect-clause-turns c = λ start so.
    let at = (goal.at.returns-in_err-now-in-Collect-clause-turns c).After-turn in
    let v : SeatTerms = c.args.seat.now in
    let w : SeatTerms = c.turn.new.seat in
    let collecting : CollectingTerms = c.in-Collect.collecting in
    let collects = c.args.collects.now in
    let n = c.args.collected.now in
    let after = c.turn.ensures.after in
    let same = book at start so in
    let goes_on : collecting.loaded + 1 ≢ c.args.board.now.book.processes = λ whole.
    let wrong : false ≡ true = c.in_err-now-in-Collect.ensures.ends.1 (ap (λ (t : CollectingTerms). t.loaded) after ∙ whole) in absurd (cc wrong) in
    let here = before at start so in
    let left : collecting.loaded + 1 < start.book.processes =
    omega (arith, goes_on, here.stage_so.1, ap (λ (b : BookTerms). b.processes) same) in
    subst (λ (answer : Option (List ℕ)). TurnsStage c.args.board.now.book c.args.overview.now.seen start v w n c.args.self.now collects n (Collect c.turn.new.self) answer)
    (sym c.from_residual.ensures)
    (subst (λ (stage : Stage). TurnsStage c.args.board.now.book c.args.overview.now.seen start v w n stage collects n (Collect c.turn.new.self) None) (sym c.in-Collect.is)
    (subst (λ (t : CollectingTerms). TurnsStage c.args.board.now.book c.args.overview.now.seen start v w n (Collect collecting) collects n (Collect t) None) (sym after)
    (subst (λ (b : BookTerms). TurnsStage b c.args.overview.now.seen start v w n (Collect collecting) collects n (Collect (collecting_after collecting w.knows)) None) (sym same)
    (TurnsStage-load c.args.overview.now.seen start v w collects n collecting here (c.turn.ensures.board.book ∙ same) left (load at start so) c.turn.ensures.told))))

pub judge-requires-clause-seen : goal.judge-requires-clause-seen
judge-requires-clause-seen c = λ p inside.
    let w : Knowledge = c.turn.new.seat.knows in
    let counts = c.in_ok-now-in-Collect.ensures.counts in
    let told = c.in_ok-now-in-Collect.ensures.collect in
    let sized = length-collect_of c.args.board.now.book c.in-Collect.collecting.start w told.loaded in
    omega (arith, told.most p (omega (arith, inside, ap length counts, sized)), ap (λ xs. get_or xs p 0) counts)

pub returns-in_ok-now-in-Collect-clause-turns : goal.returns-in_ok-now-in-Collect-clause-turns
returns-in_ok-now-in-Collect-clause-turns c = λ start so.
    let at = (goal.at.returns-in_ok-now-in-Collect-clause-turns c).After-turn in
    let v : SeatTerms = c.args.seat.now in
    let w : SeatTerms = c.turn.new.seat in
    let collecting : CollectingTerms = c.in-Collect.collecting in
    let collects = c.args.collects.now in
    let n = c.args.collected.now in
    let next : Stage = c.judge.new.self in
    let more = c.judge.new.collects in
    let same = book at start so in
    let counts = c.in_ok-now-in-Collect.ensures.counts in
    let (verdict, is, leads) = c.judge.ensures in
    let last : collecting.loaded + 1 ≡ start.book.processes =
    ap (λ (t : CollectingTerms). t.loaded) (sym c.in_ok-now-in-Collect.ensures.after)
    ∙ (c.in_ok-now-in-Collect.ensures.ends.0 refl ∙ ap (λ (b : BookTerms). b.processes) same) in
    subst (λ (stage : Stage). TurnsStage c.args.board.now.book c.args.overview.now.seen start v w n stage more (n + 1) next c.judge.result) (sym c.in-Collect.is)
    (subst (λ (b : BookTerms). TurnsStage b c.args.overview.now.seen start v w n (Collect collecting) more (n + 1) next c.judge.result) (sym same)
    (TurnsStage-judge c.args.overview.now.seen start v w collects more n collecting verdict next c.judge.result (before at start so) (c.turn.ensures.board.book ∙ same) last (load at start so) c.turn.ensures.told
    (subst (λ (b : BookTerms). IsCollect b collecting.start w.knows) same c.in_ok-now-in-Collect.ensures.collect)
    (subst (λ xs. IsVerdictOn collects w.knows.first xs verdict) counts is)
    (subst (λ xs. LeadsTo w.knows xs collects verdict more next c.judge.result) counts leads)))

pub overflow_add-collected : goal.overflow_add-collected
overflow_add-collected c = grind (arith, common_steps)

pub judge-requires-clause-as_long : goal.judge-requires-clause-as_long
judge-requires-clause-as_long c = grind (arith, common_steps)

pub turn-requires-clause-mark : goal.turn-requires-clause-mark
turn-requires-clause-mark c = grind (arith, common_steps)

pub turn-requires-in-Borrow-clause-mark : goal.turn-requires-in-Borrow-clause-mark
turn-requires-in-Borrow-clause-mark c = grind (arith, common_steps)
