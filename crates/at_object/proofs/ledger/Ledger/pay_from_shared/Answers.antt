use Rattle.std.proofs.Common.{◌≡◌, ℕ, List, [], ◌∷◌, ◌++◌, false, true, Some, refl, sym, ap, subst, ◌∙◌}
use Rattle.at_object.proofs.Prelude.{is_shared, BookTerms, HasSlot, account_of, is_owner, Call, IsHistory, AreRuns, BoardTerms, Knowledge, payout_of, Receipt, PaysInRound, PaymentMade, pass_of, PassTerms, SeatTerms, past_call, with_one_call, has_used_up, Rest, decides_on}
use Rattle.at_object.proofs.Laws.InRound.{IsPass-round}
use Rattle.at_object.proofs.Laws.Made.{PaymentMade-round, others-le}
use Rattle.at_object.proofs.Laws.Looked.{between-IsPass}
use Rattle.at_object.proofs.Laws.OnePass.{IsOfOnePass-counted, past-counted}
use Rattle.at_object.proofs.Laws.Room.{HasSlot-is_owner, MayStoreRequest-room}
use Rattle.at_object.proofs.ledger.Ledger.pay_from_shared.Goals.{After-drop-start}
use Rattle.at_object.proofs.ledger.Ledger.pay_from_shared.Goals as goal

-- the book that the pass's seat knows is the ledger's
book : (c : After-drop-start) → c.pass.inside.seat.knows.book ≡ c.self.inside.board.book
book c =
    ap (λ (t : PassTerms). t.knows.book) c.pass.view_is ∙ (c.requires.pass.book ∙ sym (ap (λ (t : BoardTerms). t.book) c.self.view_is))

-- the process has a slot on the account
slot : (c : After-drop-start) → (s : ℕ) × HasSlot c.self.inside.board.book c.pass.inside.seat.knows.first c.args.source s
slot c =
    subst (λ (t : BoardTerms). (s : ℕ) × HasSlot t.book c.pass.inside.seat.knows.first c.args.source s) (sym c.self.view_is)
    (subst (λ (t : PassTerms). (s : ℕ) × HasSlot c.args.self.now.book t.knows.first c.args.source s) (sym c.pass.view_is)
    (HasSlot-is_owner c.args.self.now.book c.args.pass.now.knows.first c.args.source c.requires.source c.requires.shared c.requires.owner))

pub pay_shared-paid-requires-clause-asks : goal.pay_shared-paid-requires-clause-asks
pay_shared-paid-requires-clause-asks c =
    let b : BookTerms = c.self.inside.board.book in
    let v : Knowledge = c.pass.inside.seat.knows in
    let before : PassTerms = pass_of c.pass.inside.seat c.pass.inside.rest in
    let same_book : v.book ≡ b =
    ap (λ (t : PassTerms). t.knows.book) c.pass.view_is ∙ (c.requires.pass.book ∙ sym (ap (λ (t : BoardTerms). t.book) c.self.view_is)) in
    let here : (s : ℕ) × HasSlot b v.first c.args.source s =
    subst (λ (t : BoardTerms). (s : ℕ) × HasSlot t.book v.first c.args.source s) (sym c.self.view_is)
    (subst (λ (t : PassTerms). (s : ℕ) × HasSlot c.args.self.now.book t.knows.first c.args.source s) (sym c.pass.view_is)
    (HasSlot-is_owner c.args.self.now.book c.args.pass.now.knows.first c.args.source c.requires.source c.requires.shared c.requires.owner)) in
    let shared : is_shared (account_of b c.args.source) ≡ true =
    ap (λ (t : BoardTerms). is_shared (account_of t.book c.args.source)) c.self.view_is ∙ c.requires.shared in
    let room : has_used_up b before c.args.source ≡ false =
    subst (λ (t : BoardTerms). has_used_up t.book before c.args.source ≡ false) (sym c.self.view_is)
    (subst (λ (t : PassTerms). has_used_up c.args.self.now.book t c.args.source ≡ false) (sym c.pass.view_is) c.requires.room) in (
      here.0,
      MayStoreRequest-room b before c.args.source here.0 (subst (λ t. IsHistory t v.seen) same_book c.known.ensures.seat.history)
          (between-IsPass b v c.pass.inside.rest.totals c.pass.inside.rest.sent same_book c.pass.invariant.pass) here.1 shared room,
    )

-- the receipt of a call
abbrev receipt_of : After-drop-start → Call → Receipt
receipt_of c call = record { call = call; reply = c.pay_shared-paid.result.0; at = c.pay_shared-paid.result.1 }

-- it was paid, whichever call it was
paid : (c : After-drop-start) (call : Call) → payout_of call ≡ Some (c.args.source, c.args.targets.now)
    → PaysInRound c.self.inside.board.book c.pass.inside.seat.knows c.pay_shared-paid.new.seat.knows c.args.source call (receipt_of c call)
paid c call payout =
    let told = c.pay_shared-paid.ensures in
    record {
      call_is = refl;
      in_round = told.in_round;
      placed = told.placed call payout;
      after_start = told.after_start call payout;
      after_snapshot = told.after_snapshot call payout;
      asked = told.asked;
      free = told.free;
      begins = told.begins;
      process_is = told.process;
    }

-- the rest of the pass
abbrev rest_after : After-drop-start → Rest
rest_after c = record c.pass.inside.rest { totals = c.pay_shared-paid.new.totals; calls = c.count_one.new.self }

pub invariant_of-pass : goal.invariant_of-pass
invariant_of-pass c =
    let told = c.pay_shared-paid.ensures in
    let here = slot c in
    let was = c.pass.inside.rest in
    let call : Call = c.args.call.now in
    IsOfOnePass-counted c.of-start.result.value c.pay_shared-paid.new.seat (receipt_of c call) was (rest_after c) c.count_one.ensures
    (IsPass-round c.self.inside.board.book c.pass.inside.seat.knows c.pay_shared-paid.new.seat.knows c.known.ensures.seat c.known-2.ensures.seat (book c)
    told.board.book was.totals was.sent c.pass.invariant.pass c.args.source here.0 here.1 call (receipt_of c call) (paid c call c.requires.call)
    c.pay_shared-paid.new.totals told.counted told.own_counted)

pub returns-clause-made : goal.returns-clause-made
returns-clause-made c =
    let call : Call = c.args.call.now in
    let told = c.pay_shared-paid.ensures in
    let b : BookTerms = c.self.inside.board.book in
    let v : Knowledge = c.pass.inside.seat.knows in
    let targets = c.args.targets.now in
    let r : Receipt = receipt_of c call in
    let was = c.pass.inside.rest.totals in
    let now = c.pay_shared-paid.new.totals in
    let before : PassTerms = pass_of c.pass.inside.seat c.pass.inside.rest in
    let after : PassTerms = pass_of c.pay_shared-paid.new.seat (rest_after c) in
    let here = slot c in
    let shared : is_shared (account_of b c.args.source) ≡ true =
    ap (λ (t : BoardTerms). is_shared (account_of t.book c.args.source)) c.self.view_is ∙ c.requires.shared in
    let owner : is_owner b v.first c.args.source ≡ true =
    ap (λ (t : BoardTerms). is_owner t.book v.first c.args.source) c.self.view_is
    ∙ (ap (λ (t : PassTerms). is_owner c.args.self.now.book t.knows.first c.args.source) c.pass.view_is ∙ c.requires.owner) in
    let room : has_used_up b before c.args.source ≡ false =
    subst (λ (t : BoardTerms). has_used_up t.book before c.args.source ≡ false) (sym c.self.view_is)
    (subst (λ (t : PassTerms). has_used_up c.args.self.now.book t c.args.source ≡ false) (sym c.pass.view_is) c.requires.room) in
    subst (λ (t : BoardTerms). PaymentMade t.book c.args.pass.now after c.args.source targets call r) c.self.view_is
    (subst (λ (t : PassTerms). PaymentMade b t after c.args.source targets call r) c.pass.view_is
    (PaymentMade-round b before after c.args.source targets call r c.known.ensures.seat c.known-2.ensures.seat
    (book c) told.board.book was c.pass.inside.rest.sent c.pass.invariant.pass room (others-le before after was now c.pass.invariant.pass.own_counted told.own_counted told.more)
    here.0 here.1 owner shared (paid c call c.requires.call) c.requires.call))

pub returns-clause-runs : goal.returns-clause-runs
returns-clause-runs c =
    subst (λ (t : BoardTerms). AreRuns t.book c.pay_shared-paid.new.seat.knows.seen) c.self.view_is
    (subst (λ (t : BookTerms). AreRuns t c.pay_shared-paid.new.seat.knows.seen) c.pay_shared-paid.ensures.board.book
    c.known-2.ensures.seat.history.runs)

pub returns-clause-decides_elsewhere : goal.returns-clause-decides_elsewhere
returns-clause-decides_elsewhere c = λ a apart.
    c.pay_shared-paid.ensures.decides_elsewhere a apart ∙ ap (λ (t : PassTerms). decides_on t.knows a) c.pass.view_is

-- it is among the calls of the pass
pub returns-clause-past : goal.returns-clause-past
returns-clause-past c =
    let call : Call = c.args.call.now in
    let before : PassTerms = pass_of c.pass.inside.seat c.pass.inside.rest in
    let after : PassTerms = pass_of c.pay_shared-paid.new.seat (rest_after c) in
    subst (λ (t : PassTerms). after.past ≡ t.past ++ past_call t after (receipt_of c call) ∷ []) c.pass.view_is
    (past-counted c.pass.inside.seat c.pay_shared-paid.new.seat (receipt_of c call) c.pass.inside.rest (rest_after c) c.pass.invariant.counted
    (c.count_one.ensures ∙ ap (λ (s : SeatTerms). with_one_call s c.pay_shared-paid.new.seat c.pay_shared-paid.new.totals (receipt_of c call) c.pass.inside.rest.calls) c.of-start.ensures))
