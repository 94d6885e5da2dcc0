use Rattle.std.proofs.Common.{◌≡◌, List, get_or, subst, sym, ◌∙◌}
use Rattle.at_agree.proofs.Prelude.{BoardTerms, IsBook, contents_of, AreCast, IsAgreement, values_of, Vote}
use Rattle.at_agree.proofs.AllVotes.{AreAccountedFor-made, IsAgreement-closed}
use Rattle.at_agree.proofs.agreement.close.Goals as goal

pub close-requires : goal.close-requires
close-requires c =
    let made : AreCast c.council.inside.ledger c.args.votes.items =
    subst (λ (b : BoardTerms). AreCast b c.args.votes.items) (sym c.council.view_is) c.requires.made in
    AreAccountedFor-made c.council.inside.ledger c.args.votes.items c.in_ok-passes.passes.items
    (contents_of c.in_ok-passes.receipts.items) made c.in_ok-passes.ensures.stands c.in_ok-passes.ensures.passes
    c.in_ok-passes.ensures.receipts

pub returns-in-Ok : goal.returns-in-Ok
returns-in-Ok c =
    let council : BoardTerms = c.council.inside.ledger in
    let votes : List Vote = c.args.votes.items in
    let made : AreCast council votes = subst (λ (b : BoardTerms). AreCast b votes) (sym c.council.view_is) c.requires.made in
    let checked : IsBook c.in-Ok.closed.book = subst IsBook c.book.ensures c.known.ensures.checked in
    let first : get_or votes 0 c.index.result.now ≡ c.index.result.now = sym c.index.ensures in
    subst (λ (x : Vote). IsAgreement (values_of votes) c.in-Ok.closed x.answer) first
    (IsAgreement-closed council votes c.in-Ok.closed c.index.result.now c.council.invariant made c.in-Ok.ensures.book checked.begun
    c.in-Ok.ensures.coherent (c.in-Ok.ensures.receipts ∙ c.in_ok-passes.ensures.receipts))
