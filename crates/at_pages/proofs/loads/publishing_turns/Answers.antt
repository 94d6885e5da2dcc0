use Rattle.std.proofs.Common.{ℕ, ◌∙◌, ◌++◌, ◌∷◌, [], Bool, List, ap, cond, sym}
use Rattle.at_pages.proofs.Prelude.{is_publication_of}
use Rattle.at_pages.proofs.TextLaws.{filter-range_more}
use Rattle.at_pages.proofs.loads.publishing_turns.Goals as goal

pub loop-i-preserved : goal.loop-i-preserved
loop-i-preserved c =
    let i : ℕ = c.loop-i.i in
    let publishes : ℕ → Bool = is_publication_of c.args.turns.now c.args.process in
    c.in_ok-push_if_publishing.ensures
    ∙ (ap (λ (xs : List ℕ). xs ++ cond (publishes i) (i ∷ []) []) c.loop-i.invariant ∙ sym (filter-range_more publishes i))
