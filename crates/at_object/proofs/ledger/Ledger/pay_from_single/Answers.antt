use Rattle.std.proofs.Common.{◌≡◌, List, [], ◌∷◌, ◌++◌, false, Some, length, refl, sym, ap, subst, ◌∙◌, arith}
use Rattle.at_object.proofs.Prelude.{BookTerms, Call, owns_of, BoardTerms, asking_on, own_part, Asking, Knowledge, payout_of, Receipt, PaysAlone, PaymentMade, pass_of, IsPass, PassTerms, SeatTerms, past_call, with_one_call, has_used_up, Rest, IsOnlyOwner}
use Rattle.at_object.proofs.Laws.Alone.{IsPass-alone, asking-alone}
use Rattle.at_object.proofs.Laws.Made.{PaymentMade-alone, others-le}
use Rattle.at_object.proofs.Laws.OnePass.{IsOfOnePass-counted, past-counted}
use Rattle.at_object.proofs.Laws.Room.{sent-room}
use Rattle.at_object.proofs.ledger.Ledger.pay_from_single.Goals.{After-drop-start}
use Rattle.at_object.proofs.ledger.Ledger.pay_from_single.Goals as goal

-- the book that the pass's seat knows is the ledger's
book : (c : After-drop-start) → c.pass.inside.seat.knows.book ≡ c.self.inside.board.book
book c =
    ap (λ (t : PassTerms). t.knows.book) c.pass.view_is ∙ (c.requires.pass.book ∙ sym (ap (λ (t : BoardTerms). t.book) c.self.view_is))

-- the receipt of a call
abbrev receipt_of : After-drop-start → Call → Receipt
receipt_of c call = record { call = call; reply = c.pay_single-paid.result.0; at = c.pay_single-paid.result.1 }

-- it was paid, whichever call it was
paid : (c : After-drop-start) (call : Call) → payout_of call ≡ Some (c.args.source, c.args.targets.now)
    → PaysAlone c.self.inside.board.book c.pass.inside.seat.knows c.pay_single-paid.new.seat.knows c.args.source c.args.targets.now call (receipt_of c call)
paid c call payout =
    let told = c.pay_single-paid.ensures in
    record {
      call_is = refl;
      reply = told.reply;
      placed = told.placed call payout;
      after_cut = told.after_cut call;
      snapshot = told.snapshot;
      short = told.short;
      done = told.done;
    }

pub pay_single-paid-requires-clause-room : goal.pay_single-paid-requires-clause-room
pay_single-paid-requires-clause-room c =
    let same : c.pass.inside.seat.knows ≡ c.args.pass.now.knows = ap (λ (t : PassTerms). t.knows) c.pass.view_is in
    let few = c.known.ensures.seat.history.own_room c.pass.inside.seat.knows.first in
    omega (
      arith,
      sent-room c.args.self.now.book c.args.pass.now c.args.source c.requires.owner.single c.requires.room
          (omega (
            arith,
            few,
            ap (λ (t : Knowledge). owns_of t.first t.seen) same,
            ap (λ (t : Knowledge). t.book.own_room) same,
            ap (λ (t : BookTerms). t.own_room) c.requires.pass.book,
          )),
      ap (λ (t : Knowledge). owns_of t.first t.seen) same,
      ap (λ (t : BoardTerms). t.book.own_room) c.self.view_is,
    )

pub sent_after-pass-inside-requires : goal.sent_after-pass-inside-requires
sent_after-pass-inside-requires c =
    let v : Knowledge = c.pass.inside.seat.knows in
    let same : v ≡ c.args.pass.now.knows = ap (λ (t : PassTerms). t.knows) c.pass.view_is in
    omega (
      arith,
      c.pass.invariant.pass.sent_is,
      sent-room c.args.self.now.book c.args.pass.now c.args.source c.requires.owner.single c.requires.room
          (omega (
            arith,
            c.known.ensures.seat.history.own_room v.first,
            ap (λ (t : Knowledge). owns_of t.first t.seen) same,
            ap (λ (t : Knowledge). t.book.own_room) same,
            ap (λ (t : BookTerms). t.own_room) c.requires.pass.book,
          )),
      ap (λ (t : Knowledge). owns_of t.first t.seen) same,
      c.known.ensures.seat.book.begun.own_room,
      ap (λ (t : Knowledge). t.book.own_room) same,
      ap (λ (t : BookTerms). t.own_room) c.requires.pass.book,
    )

-- the rest of the pass
abbrev rest_after : After-drop-start → Rest
rest_after c = record { totals = c.pay_single-paid.new.totals; sent = c.sent_after-pass-inside.result; calls = c.count_one.new.self }

pub invariant_of-pass : goal.invariant_of-pass
invariant_of-pass c =
    let told = c.pay_single-paid.ensures in
    let call : Call = c.args.call.now in
    let p = paid c call c.requires.call in
    let was = c.pass.inside.rest in
    IsOfOnePass-counted c.of-start.result.value c.pay_single-paid.new.seat (receipt_of c call) was (rest_after c) c.count_one.ensures
    (subst (IsPass c.pay_single-paid.new.seat.knows c.pay_single-paid.new.totals) (sym c.sent_after-pass-inside.ensures)
    (IsPass-alone c.self.inside.board.book c.pass.inside.seat.knows c.pay_single-paid.new.seat.knows c.known.ensures.seat c.known-2.ensures.seat (book c)
    told.board.book was.totals was.sent c.pass.invariant.pass c.args.source c.args.targets.now call (receipt_of c call)
    p c.pay_single-paid.new.totals told.counted told.own_counted))

pub returns-clause-made : goal.returns-clause-made
returns-clause-made c =
    let call : Call = c.args.call.now in
    let told = c.pay_single-paid.ensures in
    let b : BookTerms = c.self.inside.board.book in
    let v : Knowledge = c.pass.inside.seat.knows in
    let was = c.pass.inside.rest.totals in
    let now = c.pay_single-paid.new.totals in
    let targets = c.args.targets.now in
    let r : Receipt = receipt_of c call in
    let before : PassTerms = pass_of c.pass.inside.seat c.pass.inside.rest in
    let after : PassTerms = pass_of c.pay_single-paid.new.seat (rest_after c) in
    let only : IsOnlyOwner b v.first c.args.source =
    subst (λ (t : BoardTerms). IsOnlyOwner t.book v.first c.args.source) (sym c.self.view_is)
    (subst (λ (t : PassTerms). IsOnlyOwner c.args.self.now.book t.knows.first c.args.source) (sym c.pass.view_is) c.requires.owner) in
    let room : has_used_up b before c.args.source ≡ false =
    subst (λ (t : BoardTerms). has_used_up t.book before c.args.source ≡ false) (sym c.self.view_is)
    (subst (λ (t : PassTerms). has_used_up c.args.self.now.book t c.args.source ≡ false) (sym c.pass.view_is) c.requires.room) in
    subst (λ (t : BoardTerms). PaymentMade t.book c.args.pass.now after c.args.source targets call r) c.self.view_is
    (subst (λ (t : PassTerms). PaymentMade b t after c.args.source targets call r) c.pass.view_is
    (PaymentMade-alone b before after c.args.source targets call r c.known.ensures.seat c.known-2.ensures.seat
    (book c) told.board.book was c.pass.inside.rest.sent c.pass.invariant.pass room (others-le before after was now c.pass.invariant.pass.own_counted told.own_counted told.more)
    (omega (arith, c.requires.source, ap (λ (t : BoardTerms). length t.book.accounts) c.self.view_is)) only (paid c call c.requires.call)))

pub returns-clause-decides : goal.returns-clause-decides
returns-clause-decides c = λ a.
    ap (λ (t : Asking). t.decides)
    (asking-alone c.self.inside.board.book c.pass.inside.seat.knows c.pay_single-paid.new.seat.knows c.known.ensures.seat c.known-2.ensures.seat (book c)
    c.pay_single-paid.ensures.board.book c.pass.inside.rest.totals c.pass.inside.rest.sent c.pass.invariant.pass c.args.source c.args.targets.now c.args.call.now
    (receipt_of c c.args.call.now) (paid c c.args.call.now c.requires.call) a
    ∙ ap (λ (t : PassTerms). asking_on (own_part t.knows) a) c.pass.view_is)

-- it is among the calls of the pass
pub returns-clause-past : goal.returns-clause-past
returns-clause-past c =
    let call : Call = c.args.call.now in
    let before : PassTerms = pass_of c.pass.inside.seat c.pass.inside.rest in
    let after : PassTerms = pass_of c.pay_single-paid.new.seat (rest_after c) in
    subst (λ (t : PassTerms). after.past ≡ t.past ++ past_call t after (receipt_of c call) ∷ []) c.pass.view_is
    (past-counted c.pass.inside.seat c.pay_single-paid.new.seat (receipt_of c call) c.pass.inside.rest (rest_after c) c.pass.invariant.counted
    (c.count_one.ensures ∙ ap (λ (s : SeatTerms). with_one_call s c.pay_single-paid.new.seat c.pay_single-paid.new.totals (receipt_of c call) c.pass.inside.rest.calls) c.of-start.ensures))
