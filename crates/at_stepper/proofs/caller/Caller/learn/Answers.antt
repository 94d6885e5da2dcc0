use Rattle.std.proofs.Common.{◌≡◌, ◌∙◌, Option, None, ap, subst, sym}
use Rattle.at_stepper.proofs.Prelude.{vec_capacity, CallingTerms, IsPrefix, CallerTerms, HasLearned, IsCallerOf, caller_of}
use Rattle.at_stepper.proofs.CallerLaws.{HasLearned-seat, IsCallerOf-learned, none-stage_in, seen-learned}
use Rattle.at_stepper.proofs.caller.Caller.learn.Goals.{After-learn_overview}
use Rattle.at_stepper.proofs.caller.Caller.learn.Goals as goal

-- no call is in the making
none : (c : After-learn_overview) → c.self.inside.making.calling ≡ None
none c = none-stage_in c.self.inside.making.calling (ap (λ (t : CallerTerms). t.stage) c.self.view_is ∙ c.requires.between)

kept : (c : After-learn_overview) → IsCallerOf c.self.inside.seat c.self.inside.rest c.self.inside.calls.items c.self.inside.receipts.items None
    (vec_capacity c.self.inside.receipts)
kept c =
    subst (λ (o : Option CallingTerms). IsCallerOf c.self.inside.seat c.self.inside.rest c.self.inside.calls.items c.self.inside.receipts.items o
    (vec_capacity c.self.inside.receipts)) (none c) c.self.invariant

pub invariant_of-self : goal.invariant_of-self
invariant_of-self c =
    let told = c.learn_overview.ensures in
    subst (λ (o : Option CallingTerms). IsCallerOf c.learn_overview.new.seat c.self.inside.rest c.self.inside.calls.items c.self.inside.receipts.items o
    (vec_capacity c.self.inside.receipts)) (sym (none c))
    (IsCallerOf-learned c.args.board.now.book c.self.inside.seat c.learn_overview.new.seat c.self.inside.rest c.self.inside.calls.items
    c.self.inside.receipts.items (vec_capacity c.self.inside.receipts) c.args.overview.now.seen (kept c)
    (told.board.id ∙ sym (ap (λ (t : CallerTerms). t.seat.board) c.self.view_is ∙ c.requires.board.id))
    (told.board.book ∙ sym (ap (λ (t : CallerTerms). t.seat.knows.book) c.self.view_is ∙ c.requires.board.book)) told.learned
    (told.stands c.self.inside.receipts.items) told.sent told.steps told.exchanges told.pass)

pub returns-clause-learned : goal.returns-clause-learned
returns-clause-learned c =
    let told = c.learn_overview.ensures in
    subst (λ (o : Option CallingTerms). HasLearned c.args.self.now
    (caller_of c.learn_overview.new.seat c.self.inside.rest c.self.inside.calls.items c.self.inside.receipts.items o)) (sym (none c))
    (subst (λ (t : CallerTerms). HasLearned t
    (caller_of c.learn_overview.new.seat c.self.inside.rest c.self.inside.calls.items c.self.inside.receipts.items None))
    (ap (λ (o : Option CallingTerms). caller_of c.self.inside.seat c.self.inside.rest c.self.inside.calls.items c.self.inside.receipts.items o) (sym (none c))
    ∙ c.self.view_is)
    (HasLearned-seat c.args.board.now.book c.self.inside.seat c.learn_overview.new.seat c.self.inside.rest c.self.inside.calls.items
    c.self.inside.receipts.items (vec_capacity c.self.inside.receipts) c.args.overview.now.seen (kept c)
    (told.board.id ∙ sym (ap (λ (t : CallerTerms). t.seat.board) c.self.view_is ∙ c.requires.board.id))
    (told.board.book ∙ sym (ap (λ (t : CallerTerms). t.seat.knows.book) c.self.view_is ∙ c.requires.board.book)) told.learned
    (told.stands c.self.inside.receipts.items) told.sent told.steps told.exchanges told.pass))

pub returns-clause-seen : goal.returns-clause-seen
returns-clause-seen c =
    let told = c.learn_overview.ensures in
    let list = c.args.overview.now.seen in
    subst (λ (o : Option CallingTerms). (caller_of c.learn_overview.new.seat c.self.inside.rest c.self.inside.calls.items c.self.inside.receipts.items o).pass.knows.seen ≡ list)
    (sym (none c))
    (seen-learned c.args.board.now.book c.self.inside.seat c.learn_overview.new.seat c.self.inside.rest c.self.inside.calls.items
    c.self.inside.receipts.items (vec_capacity c.self.inside.receipts) list (kept c)
    (told.board.id ∙ sym (ap (λ (t : CallerTerms). t.seat.board) c.self.view_is ∙ c.requires.board.id))
    (told.board.book ∙ sym (ap (λ (t : CallerTerms). t.seat.knows.book) c.self.view_is ∙ c.requires.board.book)) told.learned
    (told.stands c.self.inside.receipts.items) told.sent told.steps told.exchanges told.pass
    (subst (λ (t : CallerTerms). IsPrefix t.seat.knows.seen list) (sym c.self.view_is) c.requires.seen))
