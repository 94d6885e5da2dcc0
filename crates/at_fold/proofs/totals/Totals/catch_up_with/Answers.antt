use Rattle.std.proofs.Common.{◌≡◌, ℕ, ◌+◌, ◌-◌, ◌*◌, ◌<◌, List, length, get_or, set, sym, ap, subst, ◌∙◌, arith, get_or-set_same}
use Rattle.at_fold.proofs.Prelude.{set-set, BookTerms, count_of, stepped-stepped, stepped, SeatTerms, RECORD_WORDS, IsHistory, HasCounted, MayCount}
use Rattle.at_fold.proofs.Laws.LoadedRecords.{MayCount-loaded}
use Rattle.at_fold.proofs.totals.Totals.catch_up_with.Goals as goal

pub loop-i-preserved : goal.loop-i-preserved
loop-i-preserved c =
    let b : BookTerms = c.args.board.now.book in
    let old : SeatTerms = c.args.seat.now in
    let now : SeatTerms = c.loop-i.seat in
    let same = c.loop-i.invariant.same in
    let history : IsHistory b now.knows.seen =
    subst (λ (s : SeatTerms). IsHistory b s.knows.seen) (sym same)
    (subst (λ (t : BookTerms). IsHistory t old.knows.seen) c.requires.board.book c.known.ensures.seat.history) in
    let within : c.loop-i.i < count_of c.args.p now.knows.seen =
    omega (arith, c.loop-i-test.true, c.requires.seen, ap (λ (s : SeatTerms). count_of c.args.p s.knows.seen) same) in
    let inside : c.args.p < length c.args.self.now.upto = omega (arith, c.requires.process, c.requires.counted.processes) in
    let next : get_or c.loop-i.self.upto c.args.p 0 ≡ c.loop-i.i =
    ap (λ (l : List ℕ). get_or l c.args.p 0) c.loop-i.invariant.upto ∙ get_or-set_same c.args.self.now.upto c.args.p c.loop-i.i 0 inside in
    let may : MayCount c.loop-i.self b now.knows.seen c.args.p c.load_entry-entry.result =
    MayCount-loaded c.loop-i.self b now.knows c.args.p c.loop-i.i c.load_entry-entry.result c.loop-i.invariant.counted history c.requires.process within next
    c.load_entry-entry.ensures.entry in
    let counted : HasCounted c.count.new.self b now.knows.seen = c.count.ensures.counted b now.knows.seen may in
    record {
      counted = subst (λ (s : SeatTerms). HasCounted c.count.new.self b s.knows.seen) (sym c.load_entry-entry.ensures.same) counted;
      upto = c.count.ensures.upto ∙ (ap (λ (l : List ℕ). set l c.args.p (c.loop-i.i + 1)) c.loop-i.invariant.upto
          ∙ set-set c.args.self.now.upto c.args.p c.loop-i.i (c.loop-i.i + 1));
      same = c.load_entry-entry.ensures.same
          ∙ (stepped-stepped old now (RECORD_WORDS * (c.loop-i.i - c.counted-start.result)) RECORD_WORDS same ∙ ap (stepped old) (omega (arith, c.loop-i.auto.i)));
    }
