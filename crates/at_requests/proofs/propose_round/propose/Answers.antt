use Rattle.std.proofs.Common.{◌≡◌, refl, sym, subst, Option, Some, IsSome}
use Rattle.at_requests.proofs.Prelude.{Decision, Decides}
use Rattle.at_requests.proofs.DecidedLaws.{DecidesAs-Decides, IsOf-Decides, SeesDecision-DecidesAs}
use Rattle.at_requests.proofs.propose_round.propose.Goals.{After-unpack_decision}
use Rattle.at_requests.proofs.propose_round.propose.Goals as goal

told : (c : After-unpack_decision)
    → Decides c.args.board.now.book c.args.seat.now.knows c.decide-decided.new.seat.knows c.args.account c.args.round c.args.proposal.now c.decide-decided.result
told c = c.decide-decided.ensures.decided c.args.proposal.now c.requires.proposal.0 c.requires.proposal.1 c.pack_decision-word.ensures.word

-- the word is that of the decision
found : (c : After-unpack_decision) → c.unpack_decision.result ≡ Some (told c).decision
found c = c.unpack_decision.ensures.exact (told c).decision (told c).range (sym (told c).word)

pub pack_decision-word-requires : goal.pack_decision-word-requires
pack_decision-word-requires c = c.requires.proposal.1.range

pub decide-decided-requires-clause-proposal : goal.decide-decided-requires-clause-proposal
decide-decided-requires-clause-proposal c = (c.args.proposal.now, c.requires.proposal.0, c.requires.proposal.1, c.pack_decision-word.ensures.word)

pub unwrap-requires : goal.unwrap-requires
unwrap-requires c =
    let before : After-unpack_decision = (goal.at.unwrap-requires c).After-unpack_decision in
    subst (λ (o : Option Decision). IsSome o) (sym (found before)) refl

pub returns-clause-decided : goal.returns-clause-decided
returns-clause-decided c =
    let before : After-unpack_decision = (goal.at.returns-clause-decided c).After-unpack_decision in
    let e = found before in
    let is : (told before).decision ≡ c.unwrap.result = cc in
    DecidesAs-Decides c.args.board.now.book c.args.seat.now.knows c.decide-decided.new.seat.knows c.args.account c.args.round c.args.proposal.now c.unwrap.result
    c.decide-decided.result (told before) is

pub returns-clause-seen : goal.returns-clause-seen
returns-clause-seen c =
    SeesDecision-DecidesAs c.args.board.now.book c.args.seat.now.knows c.decide-decided.new.seat.knows c.args.account c.args.round c.args.proposal.now c.unwrap.result
    (returns-clause-decided c)

pub returns-clause-board : goal.returns-clause-board
returns-clause-board c =
    let before : After-unpack_decision = (goal.at.returns-clause-board c).After-unpack_decision in
    IsOf-Decides c.args.board.now c.args.seat.now c.decide-decided.new.seat c.args.account c.args.round c.args.proposal.now c.decide-decided.result
    c.decide-decided.ensures.board c.requires.board (told before)
