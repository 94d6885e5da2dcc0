use Rattle.std.proofs.Common.{refl, ◌≡◌, ◌++◌, List, All, length, subst, sym, ap, ◌∙◌, vec_capacity}
use Rattle.at_c.proofs.Prelude.{arc_value, BoardTerms, contents_of, Receipt, AreAccountedFor, PassTerms, OpenedTerms, SharedTerms}
use Rattle.at_c.specs.Given.{AreReceipts}
use Rattle.at_c.proofs.Kept.{AreAccountedFor-gathered, AreReceipts-gathered}
use Rattle.at_c.proofs.opened.Opened.gathered.Goals as goal

pub new-requires-clause-accounted : goal.new-requires-clause-accounted
new-requires-clause-accounted c =
    let inside = c.self.inside in
    let old = (arc_value inside.shared).ledger in
    let all_back = subst (λ (t : OpenedTerms). length t.passes ≡ t.handed) (sym c.self.view_is) (c.if-not-take_back.ensures.all refl) in
    let all = AreAccountedFor-gathered (arc_value inside.shared) inside.handed inside.waiting.items inside.passes.items (contents_of inside.receipts.items)
    (vec_capacity inside.passes) (vec_capacity inside.receipts) c.self.invariant all_back in
    let passes = c.with_unused-passes.result.0.items in
    let receipts = contents_of c.with_unused-passes.result.1.items in
    subst (λ (l : BoardTerms). AreAccountedFor l passes receipts)
    (sym (c.into_parts-ledger.ensures.ledger ∙ ap (λ (s : SharedTerms). s.ledger) c.in-Ok.ensures.ok))
    (subst (λ (list : List PassTerms). AreAccountedFor old list receipts) (sym c.with_unused-passes.ensures.passes)
    (subst (λ (lists : List (List Receipt)). AreAccountedFor old (inside.passes.items ++ inside.waiting.items) lists)
    (sym c.with_unused-passes.ensures.receipts) all))

pub new-requires-clause-are : goal.new-requires-clause-are
new-requires-clause-are c =
    let inside = c.self.inside in
    let old = (arc_value inside.shared).ledger in
    let all_back = subst (λ (t : OpenedTerms). length t.passes ≡ t.handed) (sym c.self.view_is) (c.if-not-take_back.ensures.all refl) in
    let all = AreReceipts-gathered (arc_value inside.shared) inside.handed inside.waiting.items inside.passes.items (contents_of inside.receipts.items)
    (vec_capacity inside.passes) (vec_capacity inside.receipts) c.self.invariant all_back in
    subst (λ (l : BoardTerms). All (AreReceipts (length l.book.accounts)) (contents_of c.with_unused-passes.result.1.items))
    (sym (c.into_parts-ledger.ensures.ledger ∙ ap (λ (s : SharedTerms). s.ledger) c.in-Ok.ensures.ok))
    (subst (λ (lists : List (List Receipt)). All (AreReceipts (length old.book.accounts)) lists) (sym c.with_unused-passes.ensures.receipts) all)
