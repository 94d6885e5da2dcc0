use Rattle.std.proofs.Common.{◌≡◌, ◌+◌, ◌<◌, subst, sym, ap, ◌∙◌, arith}
use Rattle.at_snapshot.proofs.Prelude.{BookTerms, IsBook, Knowledge, IsCollecting}
use Rattle.at_snapshot.proofs.Laws.Collects.{IsCollecting-load, IsCollect-IsCollecting, collect_of-IsCollecting}
use Rattle.at_snapshot.proofs.collects.collect.Goals as goal

pub loop-p-preserved : goal.loop-p-preserved
loop-p-preserved c =
    let b : BookTerms = c.args.board.now.book in
    let v : Knowledge = c.args.seat.now.knows in
    let w : Knowledge = c.load_length.new.seat.knows in
    let p = c.loop-p.p in
    let within : p < b.processes = omega (arith, c.processes-n.ensures, ap (λ (t : BookTerms). t.processes) c.book-2.ensures) in
    let told = c.load_length.ensures.told in
    let more = IsCollecting-load b v c.loop-p.seat.knows w c.loop-p.counts p c.load_length.result (omega (arith, c.known.ensures.seat.one_part)) within c.loop-p.invariant.0 told in (
      subst (λ xs. IsCollecting b v w xs (p + 1)) (sym c.set.ensures) more,
      record {
        id = c.load_length.ensures.board ∙ c.loop-p.invariant.1.id;
        book = ap (λ (t : Knowledge). t.book) told.same ∙ c.loop-p.invariant.1.book;
      },
      omega (arith, c.load_length.ensures.steps, c.loop-p.invariant.2),
      c.load_length.ensures.exchanges ∙ c.loop-p.invariant.3,
    )

pub returns-clause-counts : goal.returns-clause-counts
returns-clause-counts c =
    let b : BookTerms = c.args.board.now.book in
    let book : IsBook b = subst IsBook c.book.ensures c.known-2.ensures.checked in
    let at : c.loop-p.p ≡ b.processes = omega (arith, c.processes-n.ensures, ap (λ (t : BookTerms). t.processes) c.book-2.ensures) in
    collect_of-IsCollecting b c.args.seat.now.knows c.loop-p.seat.knows c.loop-p.counts book.begun.some_process
    (subst (IsCollecting b c.args.seat.now.knows c.loop-p.seat.knows c.loop-p.counts) at c.loop-p.invariant.0)

pub returns-clause-collect : goal.returns-clause-collect
returns-clause-collect c =
    let b : BookTerms = c.args.board.now.book in
    let v : Knowledge = c.args.seat.now.knows in
    let book : IsBook b = subst IsBook c.book.ensures c.known-2.ensures.checked in
    let at : c.loop-p.p ≡ b.processes = omega (arith, c.processes-n.ensures, ap (λ (t : BookTerms). t.processes) c.book-2.ensures) in
    IsCollect-IsCollecting b v c.loop-p.seat.knows c.loop-p.counts book.begun.some_process
    (subst (IsCollecting b v c.loop-p.seat.knows c.loop-p.counts) at c.loop-p.invariant.0)
