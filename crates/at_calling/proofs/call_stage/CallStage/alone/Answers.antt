use Rattle.std.proofs.Common.{ℕ, List, Some, sym, ap, ◌∙◌}
use Rattle.at_calling.proofs.Prelude.{is_single, BookTerms, account_of, TargetPair, pass_of, PayingAloneTerms, first_step, refusal_in-payout}
use Rattle.at_calling.proofs.CallingLaws.{owner-refusal_of, room-refusal_of}
use Rattle.at_calling.proofs.call_stage.CallStage.alone.Goals as goal

pub start-paying-requires-clause-owner : goal.start-paying-requires-clause-owner
start-paying-requires-clause-owner c = record {
  single = c.requires.single;
  owner = owner-refusal_of c.args.board.now.book c.args.seat.now c.args.rest.now c.args.from c.known.ensures.seat c.requires.board.book c.requires.pass c.requires.may;
}

pub start-paying-requires-clause-room : goal.start-paying-requires-clause-room
start-paying-requires-clause-room c =
    room-refusal_of c.args.board.now.book c.args.seat.now c.args.rest.now c.args.from c.known.ensures.seat c.requires.board.book c.requires.pass c.requires.may
    c.requires.single

pub returns-clause-way : goal.returns-clause-way
returns-clause-way c =
    let b : BookTerms = c.args.board.now.book in
    let p : PayingAloneTerms = c.start-paying.result in
    let told = c.start-paying.ensures in (
      c.requires.payout
          ∙ (ap (λ (a : ℕ). Some (a, c.args.targets)) (sym told.from) ∙ ap (λ (xs : List TargetPair). Some (p.from, xs)) (sym told.targets)),
      refusal_in-payout b c.args.from c.args.targets (pass_of c.args.seat.now c.args.rest.now) c.args.call.now c.requires.payout ∙ c.requires.may,
      ap (λ (a : ℕ). is_single (account_of b a)) told.from ∙ c.requires.single,
    )

pub returns-clause-first : goal.returns-clause-first
returns-clause-first c =
    let b : BookTerms = c.args.board.now.book in
    c.start-paying.ensures.first
    ∙ sym (ap first_step
    (refusal_in-payout b c.args.from c.args.targets (pass_of c.args.seat.now c.args.rest.now) c.args.call.now c.requires.payout ∙ c.requires.may))
