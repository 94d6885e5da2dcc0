use Rattle.std.proofs.Common.{◌≡◌, length, refl, sym, ap, subst, ◌∙◌}
use Rattle.at_object.proofs.Prelude.{named, HasSlot, Knowledge, named-IsBetweenCalls, PassTerms}
use Rattle.at_object.proofs.pass.Pass.asked.Goals as goal

pub returns-clause-rounds : goal.returns-clause-rounds
returns-clause-rounds c = λ slot has.
    let v : Knowledge = c.self.inside.seat.knows in
    let same : v ≡ c.args.self.now.knows = ap (λ (t : PassTerms). t.knows) c.self.view_is in
    subst (λ (t : Knowledge). HasSlot t.book t.first c.args.account slot → c.announced.result ≡ named c.args.account slot t.seen) same
    (λ mine. c.announced.ensures ∙ sym (named-IsBetweenCalls v.book v c.args.account slot c.known.ensures.seat refl c.self.invariant.pass.between mine)) has

pub returns-clause-none : goal.returns-clause-none
returns-clause-none c = λ none.
    let v : Knowledge = c.self.inside.seat.knows in
    let same : v ≡ c.args.self.now.knows = ap (λ (t : PassTerms). t.knows) c.self.view_is in
    c.announced.ensures
    ∙ ap (λ (row : _). length row) (c.self.invariant.pass.unasked c.args.account (subst (λ (t : Knowledge). (slot : _) → HasSlot t.book t.first c.args.account slot → ⊥) (sym same) none))
