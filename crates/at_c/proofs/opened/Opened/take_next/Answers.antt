use Rattle.std.proofs.Common.{◌<◌, ◌∷◌, [], length, subst, sym, ap, ◌∙◌, vec_capacity}
use Rattle.at_c.proofs.Prelude.{map-append, arc_value, contents_of, IsAccountedFor, IsStillOpen, OpenedTerms, SharedTerms}
use Rattle.at_c.specs.Given.{IsGivenBack}
use Rattle.at_c.proofs.Kept.{IsOpened-back, IsStillOpen-back, IsStillOpen-none, opened_of}
use Rattle.at_c.proofs.opened.Opened.take_next.Goals as goal

pub invariant_of-self : goal.invariant_of-self
invariant_of-self c =
    let inside = c.self.inside in
    let more = subst (λ (t : OpenedTerms). length t.passes < t.handed) (sym c.self.view_is) c.requires in
    let given = subst (λ (s : SharedTerms). IsGivenBack s.ledger c.in-Some.field-0.pass c.in-Some.field-0.receipts.items) c.deref.ensures c.in-Some.ensures.given in
    let back : IsAccountedFor (arc_value inside.shared).ledger (length inside.passes.items) c.in-Some.field-0.pass c.in-Some.field-0.receipts.items = record { of_ledger = given.of_ledger; process_is = c.in-Some.ensures.process ∙ c.len-process.ensures ∙ c.self.inside.passes.ok.0; stands = given.stands; made = given.past } in
    IsOpened-back (arc_value inside.shared) inside.handed inside.waiting.items inside.passes.items c.push_reserved.new.self.items
    (contents_of inside.receipts.items) (contents_of c.push_reserved-2.new.self.items) (vec_capacity inside.passes) (vec_capacity inside.receipts)
    (vec_capacity c.push_reserved.new.self) (vec_capacity c.push_reserved-2.new.self) c.in-Some.field-0.pass c.in-Some.field-0.receipts.items
    c.self.invariant more back given.are c.push_reserved.ensures.items
    (ap contents_of c.push_reserved-2.ensures.items ∙ map-append (λ v. v.items) inside.receipts.items (c.in-Some.field-0.receipts ∷ []))
    c.push_reserved.ensures.capacity c.push_reserved-2.ensures.capacity

pub returns-in_default-clause-same : goal.returns-in_default-clause-same
returns-in_default-clause-same c = IsStillOpen-none c.args.self.now

pub returns-clause-same : goal.returns-clause-same
returns-clause-same c =
    let inside = c.self.inside in
    let now = opened_of (arc_value inside.shared) inside.handed inside.waiting.items c.push_reserved.new.self.items
    (contents_of c.push_reserved-2.new.self.items) (vec_capacity c.push_reserved.new.self) (vec_capacity c.push_reserved-2.new.self) in
    subst (λ (before : OpenedTerms). IsStillOpen before now) c.self.view_is
    (IsStillOpen-back (arc_value inside.shared) inside.handed inside.waiting.items inside.passes.items c.push_reserved.new.self.items
    (contents_of inside.receipts.items) (contents_of c.push_reserved-2.new.self.items) (vec_capacity inside.passes) (vec_capacity inside.receipts)
    (vec_capacity c.push_reserved.new.self) (vec_capacity c.push_reserved-2.new.self) c.in-Some.field-0.pass c.in-Some.field-0.receipts.items
    c.push_reserved.ensures.items
    (ap contents_of c.push_reserved-2.ensures.items ∙ map-append (λ v. v.items) inside.receipts.items (c.in-Some.field-0.receipts ∷ []))
    c.push_reserved.ensures.capacity c.push_reserved-2.ensures.capacity)
