use Rattle.std.proofs.Common.{ap, subst, ◌∙◌}
use Rattle.at_object.proofs.Prelude.{BookTerms, Coherent, ClosedTerms}
use Rattle.at_object.proofs.OwnRoom.{Coherent-with_usable_room}
use Rattle.at_object.proofs.closed.Closed.of_whole_book.Goals as goal

pub invariant_of-result : goal.invariant_of-result
invariant_of-result c =
    Coherent-with_usable_room c.args.book c.self.inside.closing c.known.ensures.checked.begun.some_own_room
    (subst (λ (t : BookTerms). Coherent t c.self.inside.closing) (ap (λ (t : ClosedTerms). t.book) c.self.view_is ∙ c.requires) c.self.invariant)

pub returns-clause-coherent : goal.returns-clause-coherent
returns-clause-coherent c = invariant_of-result c
