use Rattle.std.proofs.Common.{ℕ, List, Some, sym, ap, ◌∙◌}
use Rattle.at_calling.proofs.Prelude.{is_shared, BookTerms, account_of, TargetPair, pass_of, PayingSharedTerms, first_step, refusal_in-payout}
use Rattle.at_calling.proofs.CallingLaws.{asks-refusal_of, settled-refusal_of}
use Rattle.at_calling.proofs.call_stage.CallStage.shared.Goals as goal

pub start-paying-requires-clause-asks : goal.start-paying-requires-clause-asks
start-paying-requires-clause-asks c =
    asks-refusal_of c.args.board.now.book c.args.seat.now c.args.rest.now c.args.from c.known.ensures.seat c.requires.board.book c.requires.pass c.requires.may
    c.requires.from c.requires.shared

pub start-paying-requires-clause-settled : goal.start-paying-requires-clause-settled
start-paying-requires-clause-settled c =
    settled-refusal_of c.args.board.now.book c.args.seat.now c.args.rest.now c.args.from c.known.ensures.seat c.requires.board.book c.requires.pass c.requires.may

pub returns-clause-way : goal.returns-clause-way
returns-clause-way c =
    let b : BookTerms = c.args.board.now.book in
    let p : PayingSharedTerms = c.start-paying.result in
    let told = c.start-paying.ensures in (
      c.requires.payout
          ∙ (ap (λ (a : ℕ). Some (a, c.args.targets)) (sym told.account) ∙ ap (λ (xs : List TargetPair). Some (p.account, xs)) (sym told.targets)),
      refusal_in-payout b c.args.from c.args.targets (pass_of c.args.seat.now c.args.rest.now) c.args.call.now c.requires.payout ∙ c.requires.may,
      ap (λ (a : ℕ). is_shared (account_of b a)) told.account ∙ c.requires.shared,
    )

pub returns-clause-first : goal.returns-clause-first
returns-clause-first c =
    let b : BookTerms = c.args.board.now.book in
    c.start-paying.ensures.first
    ∙ sym (ap first_step
    (refusal_in-payout b c.args.from c.args.targets (pass_of c.args.seat.now c.args.rest.now) c.args.call.now c.requires.payout ∙ c.requires.may))
