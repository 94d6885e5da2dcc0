use Rattle.std.proofs.Common.{◌≡◌, ◌∙◌, ◌<◌, List, ap, arith, get_or, inl, inr, length, set, subst, sym}
use Rattle.at_stepper.proofs.Prelude.{cases_eq, get_or_default, set-get_or, OverviewTerms, TakesIn, count_of, CallerTerms}
use Rattle.at_stepper.proofs.RunLaws.{overview-once_more}
use Rattle.at_stepper.proofs.run.show_all.Goals as goal

pub loop-process-preserved : goal.loop-process-preserved
loop-process-preserved c =
    let callers = c.args.callers.now in
    let p = c.loop-process.process in
    let kept = c.loop-process.invariant in
    let overview : OverviewTerms = c.args.overview.now in
    let caller : CallerTerms = get_or c.loop-process.callers p c.index-callers-process.result in
    let within : p < length callers = omega (arith, c.loop-process-test.true, kept.end) in
    let is : caller ≡ get_or callers p caller =
    ap (λ (cs : List CallerTerms). get_or cs p c.index-callers-process.result) kept.callers
    ∙ get_or_default callers p c.index-callers-process.result caller within in
    let once =
    overview-once_more c.args.board.now callers p caller overview c.show.new.overview within c.requires.callers is c.requires.overview
    c.show.ensures.overview c.requires.seen
    (subst (λ (o : OverviewTerms). TakesIn c.args.board.now.book o.seen caller.seat.knows c.show.new.overview.seen) kept.overview c.show.ensures.added) in
    record {
      end = kept.end;
      callers =
          ap (λ (x : CallerTerms). set c.loop-process.callers p x) c.show.ensures.same
          ∙ (set-get_or c.loop-process.callers p c.index-callers-process.result ∙ kept.callers);
      overview = once.0;
      own = λ q d below.
          elim (cases_eq q p) as (λ _. count_of q overview.seen ≡ count_of q (get_or callers q d).seat.knows.seen) [
            | inl here ↦
                subst (λ k. count_of k overview.seen ≡ count_of k (get_or callers k d).seat.knows.seen) (sym here)
                (once.1 ∙ ap (λ (x : CallerTerms). count_of p x.seat.knows.seen) (is ∙ get_or_default callers p caller d within))
            | inr earlier ↦ kept.own q d (omega (arith, below, earlier))
          ];
    }
