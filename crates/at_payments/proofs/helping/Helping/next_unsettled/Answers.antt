use Rattle.std.proofs.Common.{◌≡◌, false, List, sym, subst}
use Rattle.at_payments.proofs.Prelude.{BookTerms, prefix_of, is_settled, Publication, HelpingTerms, IsHelpingAt, AreDone, the_view}
use Rattle.at_payments.proofs.SharedLaws.Proposing.{own_left}
use Rattle.at_payments.proofs.helping.Helping.next_unsettled.Goals.{After-done-done}
use Rattle.at_payments.proofs.helping.Helping.next_unsettled.Goals as goal

-- the records of the cut
abbrev list : After-done-done → List Publication
list c = prefix_of c.args.totals.now.upto c.args.seat.now.knows.seen

pub oldest-requires-clause-some : goal.oldest-requires-clause-some
oldest-requires-clause-some c =
    let before : After-done-done = (goal.at.oldest-requires-clause-some c).After-done-done in
    let b : BookTerms = c.args.board.now.book in
    let h : HelpingTerms = the_view c.self.inside in
    let is = sym c.self.view_is in
    let helping = subst (IsHelpingAt b c.args.seat.now.knows (list before)) is c.requires.helping in (
      h.own,
      helping.own_in,
      own_left b c.args.seat.now.knows h c.args.totals.now.upto c.done-done.result c.requires.at_cut.history c.requires.at_cut.cut helping
          (subst (λ (t : HelpingTerms). is_settled t.account t.own.slot t.own.number (list before) ≡ false) is c.requires.unsettled)
          (subst (λ (t : HelpingTerms). AreDone b (list before) t.account c.done-done.result) is c.done-done.ensures.done),
    )
