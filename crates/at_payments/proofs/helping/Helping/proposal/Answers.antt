use Rattle.std.proofs.Common.{◌≡◌, ◌↔◌, ◌≤◌, false, true, List, sym, subst, arith}
use Rattle.at_payments.proofs.Prelude.{BookTerms, amount_of, CountsAccount, place-IsCut-le, ArePublishedBy-IsHistory, balance_after, IsCut, prefix_of, is_settled, rounds, Publication, MayPropose, Knowledge, request_of, OpenRequest, HelpingTerms, IsHelpingAt, IsNextUnsettled}
use Rattle.at_payments.proofs.SharedLaws.Proposing.{MayPropose-IsOldestOf}
use Rattle.at_payments.proofs.helping.Helping.proposal.Goals.{After-known-2, After-self}
use Rattle.at_payments.proofs.helping.Helping.proposal.Goals as goal

-- the counts are those of a cut
cut_is : (c : After-known-2) → IsCut c.args.board.now.book.processes c.args.cut.now c.args.seat.now.knows.seen
cut_is c = subst (λ f. IsCut c.args.board.now.book.processes f c.args.seat.now.knows.seen) c.requires.cut c.requires.at_cut.cut

pub next_unsettled-next-requires-clause-helping : goal.next_unsettled-next-requires-clause-helping
next_unsettled-next-requires-clause-helping c =
    let v : Knowledge = c.args.seat.now.knows in
    subst (λ f. IsHelpingAt c.args.board.now.book v (prefix_of f v.seen) c.args.self.now) (sym c.requires.cut) c.requires.helping

pub next_unsettled-next-requires-clause-unsettled : goal.next_unsettled-next-requires-clause-unsettled
next_unsettled-next-requires-clause-unsettled c =
    let h : HelpingTerms = c.args.self.now in
    subst (λ f. is_settled h.account h.own.slot h.own.number (prefix_of f c.args.seat.now.knows.seen) ≡ false) (sym c.requires.cut) c.requires.unsettled

-- the totals have counted the account
counts_account : (c : After-self) → CountsAccount c.args.totals.now c.args.board.now.book c.args.seat.now.knows.seen c.self.inside.account
counts_account c =
    subst (λ (h : HelpingTerms). CountsAccount c.args.totals.now c.args.board.now.book c.args.seat.now.knows.seen h.account) (sym c.self.view_is)
    (record { counted = c.requires.totals; account_in = c.requires.helping.asked.slot_in.account_in })

pub covers-requires : goal.covers-requires
covers-requires c = (
  c.args.board.now.book,
  c.args.seat.now.knows.seen,
  counts_account (goal.at.covers-requires c).After-self,
  c.requires.at_cut,
)

pub sum-requires : goal.sum-requires
sum-requires c =
    let b : BookTerms = c.args.board.now.book in
    let seen = c.args.seat.now.knows.seen in
    let history = c.requires.at_cut.history in
    omega (
      arith,
      place-IsCut-le b.processes c.args.cut.now seen (cut_is (goal.at.sum-requires c).After-known-2) (ArePublishedBy-IsHistory b seen history),
      history.few,
    )

pub returns-clause-proposal : goal.returns-clause-proposal
returns-clause-proposal c =
    let found : After-self = (goal.at.returns-clause-proposal c).After-self in
    let b : BookTerms = c.args.board.now.book in
    let v : Knowledge = c.args.seat.now.knows in
    let cut = c.args.cut.now in
    let list : List Publication = prefix_of cut v.seen in
    let h : HelpingTerms = c.args.self.now in
    let x : OpenRequest = c.next_unsettled-next.result in
    let next = subst (λ f. IsNextUnsettled b (prefix_of f v.seen) h x) c.requires.cut c.next_unsettled-next.ensures.next in
    let covered : (c.covers.result ≡ true) ↔ (amount_of x.targets ≤ balance_after b list h.account) =
    subst (λ f. (c.covers.result ≡ true) ↔ (amount_of x.targets ≤ balance_after b (prefix_of f v.seen) h.account)) c.requires.cut
    (subst (λ (t : HelpingTerms). (c.covers.result ≡ true) ↔ (amount_of x.targets ≤ balance_after b (prefix_of c.args.totals.now.upto v.seen) t.account)) c.self.view_is
    (c.covers.ensures b v.seen (counts_account found) c.requires.at_cut)) in
    let may = MayPropose-IsOldestOf b v h cut next.done c.requires.at_cut.history (cut_is (goal.at.returns-clause-proposal c).After-known-2) c.requires.helping
    c.requires.unsettled next.are x c.covers.result c.requires.totals.book c.requires.seat.book c.known-2.ensures.seat.in_range c.next_unsettled-next.ensures.few
    next.oldest covered in (
      request_of x,
      subst (λ k. MayPropose b v h.account (rounds h.account list)
          (record { ok = c.covers.result; slot = x.slot; number = x.number; place = k }) (request_of x)) (sym c.sum.ensures) may,
    )
