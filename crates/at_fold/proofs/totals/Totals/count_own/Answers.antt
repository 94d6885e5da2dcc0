use Rattle.std.proofs.Common.{ℕ, sym, subst}
use Rattle.at_fold.proofs.Prelude.{Knowledge, MayCount}
use Rattle.at_fold.proofs.Laws.MorePublished.{StaysCounted-HasCounted}
use Rattle.at_fold.proofs.totals.Totals.count_own.Goals as goal

pub returns-clause-stays : goal.returns-clause-stays
returns-clause-stays c =
    let v : Knowledge = c.args.seat.now.knows in
    let may : MayCount c.args.self.now v.book v.seen v.first c.args.entry.now =
    record { history = c.process.ensures.seat.history; counts = c.requires.counted; next = c.requires.next } in
    StaysCounted-HasCounted c.count.new.self v.book v.seen
    (c.count.ensures.counted v.book v.seen
    (subst (λ (p : ℕ). MayCount c.args.self.now v.book v.seen p c.args.entry.now) (sym c.process.ensures.process) may))
