use Rattle.std.proofs.Common.{sym, subst, ap, ◌∙◌, arith}
use Rattle.at_payments.proofs.Prelude.{BookTerms, length-IsCut, sum-Covers-le, SeatTerms, Knowledge, StaysCounted-HasCounted, TotalSums, HasLoaded, IsSnapshot}
use Rattle.at_payments.proofs.Laws.Looks.{Covers-IsSnapshot, HasRecords-IsCut}
use Rattle.at_payments.proofs.looks.look.Goals as goal

pub catch_up-requires-clause-counted : goal.catch_up-requires-clause-counted
catch_up-requires-clause-counted c =
    StaysCounted-HasCounted c.args.totals.now c.args.board.now.book c.args.seat.now.knows.seen c.requires.totals c.snapshot-cut.new.seat.knows.seen
    c.snapshot-cut.ensures.loads.more

pub catch_up-requires-clause-more : goal.catch_up-requires-clause-more
catch_up-requires-clause-more c =
    Covers-IsSnapshot c.args.board.now.book c.args.seat.now.knows c.snapshot-cut.new.seat.knows c.args.totals.now c.snapshot-cut.result
    c.snapshot-cut.ensures.snapshot c.requires.totals

pub catch_up-requires-clause-seen : goal.catch_up-requires-clause-seen
catch_up-requires-clause-seen c =
    HasRecords-IsCut c.args.board.now.book c.snapshot-cut.new.seat.knows.seen c.snapshot-cut.result c.snapshot-cut.ensures.snapshot.cut

pub returns-clause-looked : goal.returns-clause-looked
returns-clause-looked c =
    let b : BookTerms = c.args.board.now.book in
    let v : Knowledge = c.args.seat.now.knows in
    let t : TotalSums = c.args.totals.now in
    let cut = c.snapshot-cut.result in
    let snapshot = c.snapshot-cut.ensures.snapshot in
    let same = sym c.catch_up.ensures.same in
    record {
      snapshot = subst (λ (s : SeatTerms). IsSnapshot b v s.knows cut) same snapshot;
      loads = subst (λ (s : SeatTerms). HasLoaded b v s.knows) same c.snapshot-cut.ensures.loads;
      counted = c.catch_up.ensures.stays;
      upto = c.catch_up.ensures.upto;
      more = sum-Covers-le cut t.upto (length-IsCut b.processes cut c.snapshot-cut.new.seat.knows.seen snapshot.cut ∙ sym c.requires.totals.processes)
          (Covers-IsSnapshot b v c.snapshot-cut.new.seat.knows t cut snapshot c.requires.totals);
    }

pub returns-clause-steps : goal.returns-clause-steps
returns-clause-steps c =
    omega (arith, c.snapshot-cut.ensures.steps, ap (λ (s : SeatTerms). s.steps) c.catch_up.ensures.same)

pub returns-clause-risen : goal.returns-clause-risen
returns-clause-risen c =
    omega (arith, c.snapshot-cut.ensures.risen, ap (λ (s : SeatTerms). s.steps) c.catch_up.ensures.same)

pub returns-clause-exchanges : goal.returns-clause-exchanges
returns-clause-exchanges c = ap (λ (s : SeatTerms). s.exchanges) c.catch_up.ensures.same ∙ c.snapshot-cut.ensures.exchanges
