use Rattle.std.proofs.Common.{◌∙◌, List, Vec, Global, ap, subst, sym}
use Rattle.at_stepper.proofs.Prelude.{length-map, IsOverviewOf, BoardTerms, Publication, BookTerms, Call, contents_of, AreCallersOn, IsAllPublished}
use Rattle.at_stepper.proofs.SteppingLaws.{AreCallersOn-begun, IsAllPublished-begun}
use Rattle.at_stepper.proofs.stepper.Stepper.new.Goals as goal

pub invariant_of-result : goal.invariant_of-result
invariant_of-result c =
    let ledger : BoardTerms = c.in-Ok.memory.ledger in
    let files = contents_of c.args.files.items in
    let made = c.run_of.ensures in
    record {
      callers =
          subst (λ (l : BoardTerms). AreCallersOn l c.run_of.result.callers.items) (sym made.ledger)
          (AreCallersOn-begun ledger files c.run_of.result.callers.items made.callers
          (length-map c.args.files.items (λ (f : Vec Call Global). f.items)
          ∙ (c.requires.count ∙ sym (ap (λ (b : BookTerms). b.processes) c.in-Ok.ensures.book))));
      overview = subst (λ (l : BoardTerms). IsOverviewOf c.run_of.result.overview l) (sym made.ledger) made.overview;
      published =
          subst (λ (l : BoardTerms). IsAllPublished l.book c.run_of.result.callers.items c.run_of.result.overview.seen) (sym made.ledger)
          (subst (λ (list : List Publication). IsAllPublished ledger.book c.run_of.result.callers.items list) (sym made.unpublished)
          (IsAllPublished-begun ledger files c.run_of.result.callers.items made.callers));
    }
