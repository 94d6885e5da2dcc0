use Rattle.std.proofs.Common.{◌^◌, ◌<◌, ap, sum, arith}
use Rattle.at_payments.proofs.Prelude.{slots_of, account_of, place-IsCut-le, ArePublishedBy-IsHistory, named-le, CountsSlot, HelpingTerms}
use Rattle.at_payments.proofs.helping.Helping.done.Goals as goal

pub set-requires-clause-small : goal.set-requires-clause-small
set-requires-clause-small c =
    let b = c.args.board.now.book in
    let seen = c.args.seat.now.knows.seen in
    let totals = c.args.totals.now in
    let a = c.self.inside.account in
    let same = ap (λ (h : HelpingTerms). h.account) c.self.view_is in
    let cut = c.requires.at_cut in
    let slot : CountsSlot totals b seen a c.loop-slot.slot = record {
      account = record { counted = c.requires.totals; account_in = omega (arith, same, c.requires.account) };
      slot_in = omega (arith, c.loop-slot-test.true, c.slot_count-slots.ensures.count, ap (λ t. slots_of (account_of t a)) c.book.ensures);
    } in
    omega (
      arith,
      c.done.ensures.cut b seen slot cut,
      named-le b seen (sum totals.upto) a c.loop-slot.slot cut.history
          (place-IsCut-le b.processes totals.upto seen cut.cut (ArePublishedBy-IsHistory b seen cut.history)),
      c.requires.totals.book.begun.request_room,
    )
