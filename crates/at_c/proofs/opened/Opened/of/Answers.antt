use Rattle.std.proofs.Common.{List, subst, sym, ap, ◌∙◌, arith, vec_capacity}
use Rattle.at_c.proofs.Prelude.{arc_value, BookTerms, contents_of, AreNewPasses, PassTerms, SharedTerms}
use Rattle.at_c.proofs.Kept.{IsOpened-new}
use Rattle.at_c.proofs.opened.Opened.of.Goals as goal

pub invariant_of-result : goal.invariant_of-result
invariant_of-result c =
    let processes = c.processes-processes.ensures ∙ ap (λ (b : BookTerms). b.processes) c.book.ensures in
    IsOpened-new (arc_value c.in_ok-shared.shared) c.args.ledger c.from.result.items c.in_ok-passes.passes.items (contents_of c.in_ok-receipts.receipts.items)
    (vec_capacity c.in_ok-passes.passes) (vec_capacity c.in_ok-receipts.receipts)
    (ap (λ (s : SharedTerms). s.ledger) c.in_ok-shared.ensures.ok ∙ c.in_ok-new.ensures.0)
    (subst (λ (list : List PassTerms). AreNewPasses c.args.ledger list) (sym c.from.ensures.0) c.requires.passes)
    c.in_ok-passes.ensures.items (ap contents_of c.in_ok-receipts.ensures.items)
    (omega (arith, processes, c.in_ok-passes.ensures.capacity)) (omega (arith, processes, c.in_ok-receipts.ensures.capacity))
