use Rattle.std.proofs.Common.{◌≡◌, ◌<◌, length, sym, ap, subst, ◌∙◌, arith}
use Rattle.at_payments.proofs.Prelude.{BookTerms, IsCut-IsPrefix, ArePublishedBy-IsHistory, IsCut, prefix_of, rounds, SeesDecision, Knowledge, StaysCounted-HasCounted, DecidesAs, AnswersRound, PublishesRound, HelpingTerms}
use Rattle.at_payments.proofs.SharedLaws.Turns.{IsSoundRound-Decides}
use Rattle.at_payments.proofs.helping.Helping.decide_next.Goals.{After-rounds-round}
use Rattle.at_payments.proofs.helping.Helping.decide_next.Goals as goal

-- the round is the next one at the cut
round_is : (c : After-rounds-round)
    → c.rounds-round.result ≡ rounds c.args.self.now.account (prefix_of c.args.cut.now c.args.seat.now.knows.seen)
round_is c =
    let b : BookTerms = c.args.board.now.book in
    let seen = c.args.seat.now.knows.seen in
    let account : c.self.inside.account ≡ c.args.self.now.account = ap (λ (h : HelpingTerms). h.account) c.self.view_is in
    let told = c.rounds-round.ensures.cut b seen
    (record {
      counted = c.requires.totals;
      account_in = subst (λ (h : HelpingTerms). h.account < length b.accounts) (sym c.self.view_is) c.requires.helping.asked.slot_in.account_in;
    })
    c.requires.at_cut in
    told ∙ (ap (λ f. rounds c.self.inside.account (prefix_of f seen)) c.requires.cut ∙ ap (λ a. rounds a (prefix_of c.args.cut.now seen)) account)

pub publish-requires-clause-totals : goal.publish-requires-clause-totals
publish-requires-clause-totals c =
    StaysCounted-HasCounted c.args.totals.now c.args.board.now.book c.args.seat.now.knows.seen c.requires.totals c.propose-decided.new.seat.knows.seen
    c.propose-decided.ensures.decided.decides.more

pub publish-requires-clause-round : goal.publish-requires-clause-round
publish-requires-clause-round c =
    let b : BookTerms = c.args.board.now.book in
    let v : Knowledge = c.args.seat.now.knows in
    let cut = c.args.cut.now in
    IsSoundRound-Decides b v c.propose-decided.new.seat.knows c.args.self.now.account c.args.self.now.own.slot _ c.rounds-round.result _ _ cut
    c.requires.at_cut.history (subst (λ f. IsCut b.processes f v.seen) c.requires.cut c.requires.at_cut.cut) c.requires.helping.asked.slot_in
    (round_is (goal.at.publish-requires-clause-round c).After-rounds-round)
    (subst (λ (h : HelpingTerms). DecidesAs b v c.propose-decided.new.seat.knows h.account c.rounds-round.result c.proposal-proposal.result c.propose-decided.result)
    c.self.view_is c.propose-decided.ensures.decided).decides

pub returns-clause-decided : goal.returns-clause-decided
returns-clause-decided c =
    let b : BookTerms = c.args.board.now.book in
    let v : Knowledge = c.args.seat.now.knows in
    let x : Knowledge = c.propose-decided.new.seat.knows in
    let z : Knowledge = c.publish.new.seat.knows in
    let a = c.args.self.now.account in
    let round = round_is (goal.at.returns-clause-decided c).After-rounds-round in
    let h : HelpingTerms = c.args.self.now in
    let d = c.propose-decided.result in (
      d,
      record {
        unsettled = c.requires.unsettled;
        proposal = c.proposal-proposal.result;
        at_cut = c.proposal-proposal.ensures.place;
        may = c.proposal-proposal.ensures.proposal;
        decided = x;
        decides = subst (λ r. DecidesAs b v x a r c.proposal-proposal.result d) round
            (subst (λ (t : HelpingTerms). DecidesAs b v x t.account c.rounds-round.result c.proposal-proposal.result d) c.self.view_is c.propose-decided.ensures.decided);
        publishes = subst (λ r. PublishesRound b x z a r d c.args.cut.now) round c.publish.ensures.published;
      },
      subst (λ r. AnswersRound h r d c.answer.result) round c.answer.ensures,
    )

pub publish-requires-clause-seat : goal.publish-requires-clause-seat
publish-requires-clause-seat c = c.propose-decided.ensures.board

pub publish-requires-clause-cut : goal.publish-requires-clause-cut
publish-requires-clause-cut c =
    let b : BookTerms = c.args.board.now.book in
    let v : Knowledge = c.args.seat.now.knows in
    let cut = subst (λ f. IsCut b.processes f v.seen) c.requires.cut c.requires.at_cut.cut in
    IsCut-IsPrefix b.processes c.args.cut.now v.seen c.propose-decided.new.seat.knows.seen cut (ArePublishedBy-IsHistory b v.seen c.requires.at_cut.history)
    c.propose-decided.ensures.decided.decides.more

pub publish-requires-clause-upto : goal.publish-requires-clause-upto
publish-requires-clause-upto c = c.requires.cut

pub publish-requires-clause-decided : goal.publish-requires-clause-decided
publish-requires-clause-decided c =
    subst (λ (h : HelpingTerms). SeesDecision c.propose-decided.new.seat.knows h.account c.rounds-round.result c.propose-decided.result) c.self.view_is
    c.propose-decided.ensures.seen

pub returns-clause-upto : goal.returns-clause-upto
returns-clause-upto c = c.publish.ensures.upto

pub returns-clause-counted : goal.returns-clause-counted
returns-clause-counted c = c.publish.ensures.counted

pub returns-clause-board : goal.returns-clause-board
returns-clause-board c = c.publish.ensures.board

pub returns-clause-steps : goal.returns-clause-steps
returns-clause-steps c = omega (arith, c.propose-decided.ensures.steps, c.publish.ensures.steps)

pub returns-clause-exchanges : goal.returns-clause-exchanges
returns-clause-exchanges c = omega (arith, c.propose-decided.ensures.exchanges, c.publish.ensures.exchanges)
