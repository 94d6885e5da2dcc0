use Rattle.std.proofs.Common.{◌≡◌, ℕ, ◌+◌, ◌-◌, ◌*◌, ◌<◌, ◌≤◌, List, length, get_or, set, refl, subst, sym, ap, ◌∙◌, arith, get_or-set_same}
use Rattle.at_fold.proofs.Prelude.{sum, set-get_or, BookTerms, stepped-none, stepped-stepped, stepped, SeatTerms, RECORD_WORDS, IsCatchingUp, HasCounted, TotalSums}
use Rattle.at_fold.proofs.Laws.CatchingUp.{IsCatchingUp-more, IsCatchingUp-next, IsCatchingUp-start, count_of-IsCatchingUp, upto-IsCatchingUp}
use Rattle.at_fold.proofs.Laws.LoadedRecords.{sum-caught}
use Rattle.at_fold.proofs.Laws.MorePublished.{StaysCounted-HasCounted}
use Rattle.at_fold.proofs.totals.Totals.catch_up.Goals as goal
use Rattle.at_fold.proofs.totals.Totals.catch_up.Goals.{then-counted-end, else-counted-end}

pub loop-p-init : goal.loop-p-init
loop-p-init c = record {
  catching = IsCatchingUp-start c.args.board.now.book c.args.seat.now.knows.seen c.args.counts.now c.args.self.now c.requires.counted c.requires.more c.requires.seen;
  same = stepped-none c.args.seat.now ∙ ap (stepped c.args.seat.now) (omega arith);
  more = omega arith;
}

-- the records of one process are counted, whether some were new or none
record IsCaught (c : goal.Joined-counted-end) : Type 0 where
  counted : HasCounted c.if-counted-end.self c.args.board.now.book c.if-counted-end.seat.knows.seen
  upto : c.if-counted-end.self.upto ≡ set c.loop-p.self.upto c.loop-p.p c.get-end.result
  same : c.if-counted-end.seat ≡ stepped c.loop-p.seat (RECORD_WORDS * (c.get-end.result - get_or c.loop-p.self.upto c.loop-p.p 0))

-- the process is one of the book's
known_process : (c : goal.Joined-counted-end) → c.loop-p.p < c.args.board.now.book.processes
known_process c = omega (arith, c.loop-p-test.true, c.len-p-end.ensures.length, c.requires.seen.sized)

-- the count was no less before than it is to be
start-le : (c : goal.Joined-counted-end) → get_or c.loop-p.self.upto c.loop-p.p 0 ≤ c.get-end.result
start-le c =
    omega (arith, c.loop-p.invariant.catching.more c.loop-p.p (omega (arith, known_process c, c.requires.seen.sized)), c.get-end.ensures)

is_caught : (c : goal.Joined-counted-end) → IsCaught c
is_caught c =
    let t : TotalSums = c.loop-p.self in
    let p : ℕ = c.loop-p.p in
    let n : ℕ = c.get-end.result in
    elim c.if-counted-end.branch [
      | then-counted-end w ↦ record {
        counted = subst (λ (s : TotalSums). HasCounted s c.args.board.now.book c.if-counted-end.seat.knows.seen) (sym w.self-is)
            (subst (λ (s : SeatTerms). HasCounted w.catch_up_with.new.self c.args.board.now.book s.knows.seen) (sym w.seat-is) w.catch_up_with.ensures.counted);
        upto = ap (λ (s : TotalSums). s.upto) w.self-is ∙ w.catch_up_with.ensures.upto;
        same = w.seat-is ∙ w.catch_up_with.ensures.same;
      }
      | else-counted-end w ↦
          let start : n ≡ get_or t.upto p 0 = omega (arith, start-le c, w.if-counted-end.false, c.counted.ensures) in record {
            counted = subst (λ (s : TotalSums). HasCounted s c.args.board.now.book c.if-counted-end.seat.knows.seen) (sym w.self-is)
                (subst (λ (s : SeatTerms). HasCounted t c.args.board.now.book s.knows.seen) (sym w.seat-is) c.loop-p.invariant.catching.counted);
            upto = ap (λ (s : TotalSums). s.upto) w.self-is ∙ (sym (set-get_or t.upto p 0) ∙ ap (set t.upto p) (sym start));
            same = w.seat-is ∙ (stepped-none c.loop-p.seat ∙ ap (stepped c.loop-p.seat) (omega (arith, start)));
          }
    ]

pub loop-p-preserved : goal.loop-p-preserved
loop-p-preserved c =
    let b : BookTerms = c.args.board.now.book in
    let t : TotalSums = c.loop-p.self in
    let t' : TotalSums = c.if-counted-end.self in
    let p : ℕ = c.loop-p.p in
    let n : ℕ = c.get-end.result in
    let counts : List ℕ = c.args.counts.now in
    let start : List ℕ = c.args.self.now.upto in
    let seen = c.if-counted-end.seat.knows.seen in
    let was = c.loop-p.invariant in
    let now : IsCaught c = is_caught c in
    let known : p < b.processes = known_process c in
    let inside : p < length t.upto = omega (arith, known, was.catching.counted.processes) in
    let more : get_or t.upto p 0 ≤ n = start-le c in
    let caught = sum-caught t.upto p n inside more in
    let total = ap (λ (l : List ℕ). sum l) now.upto in
    let catching : IsCatchingUp b seen counts start t p = subst (λ (s : SeatTerms). IsCatchingUp b s.knows.seen counts start t p) (sym now.same) was.catching in
    record {
      catching = IsCatchingUp-next b seen counts start t' p
          (IsCatchingUp-more b seen counts start t t' p n known catching now.counted now.upto (omega (arith, c.get-end.ensures)))
          (ap (λ (l : List ℕ). get_or l p 0) now.upto ∙ (get_or-set_same t.upto p n 0 inside ∙ c.get-end.ensures));
      same = now.same
          ∙ (stepped-stepped c.args.seat.now c.loop-p.seat (RECORD_WORDS * (sum t.upto - sum start)) (RECORD_WORDS * (n - get_or t.upto p 0)) was.same
          ∙ ap (stepped c.args.seat.now) (omega (arith, was.more, caught, total, more)));
      more = omega (arith, was.more, caught, total, more);
    }

pub catch_up_with-requires-clause-seen : goal.catch_up_with-requires-clause-seen
catch_up_with-requires-clause-seen c =
    let b : BookTerms = c.args.board.now.book in
    let known : c.loop-p.p < b.processes = omega (arith, c.loop-p-test.true, c.len-p-end.ensures.length, c.requires.seen.sized) in
    omega (
      arith,
      c.get-end.ensures,
      count_of-IsCatchingUp b c.loop-p.seat.knows.seen c.args.counts.now c.args.self.now.upto c.loop-p.self c.loop-p.p known c.loop-p.invariant.catching,
    )

pub returns-clause-stays : goal.returns-clause-stays
returns-clause-stays c =
    StaysCounted-HasCounted c.loop-p.self c.args.board.now.book c.loop-p.seat.knows.seen c.loop-p.invariant.catching.counted

pub returns-clause-upto : goal.returns-clause-upto
returns-clause-upto c =
    upto-IsCatchingUp c.args.board.now.book c.loop-p.seat.knows.seen c.args.counts.now c.args.self.now.upto c.loop-p.self c.loop-p.p
    (omega (arith, c.loop-p-test.false, c.len-p-end.ensures.length, c.requires.seen.sized)) c.loop-p.invariant.catching

pub returns-clause-same : goal.returns-clause-same
returns-clause-same c =
    c.loop-p.invariant.same ∙ ap (λ (l : List ℕ). stepped c.args.seat.now (RECORD_WORDS * (sum l - sum c.args.self.now.upto))) (returns-clause-upto c)
