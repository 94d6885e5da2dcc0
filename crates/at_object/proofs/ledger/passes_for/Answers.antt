use Rattle.std.proofs.Common.{◌≡◌, List, [], ◌∷◌, ◌++◌, refl, sym, ap, subst, ◌∙◌, length, append_assoc, arith}
use Rattle.at_object.proofs.Prelude.{common_steps, length-append, SeatTerms, pass_of, IsPass, PassTerms}
use Rattle.at_object.proofs.Laws.NewPasses.{AreNewPasses-all, AreNewSoFar, AreNewSoFar-more, IsPass-starting, new_seat-at}
use Rattle.at_object.proofs.ledger.passes_for.Goals as goal

pub invariant_of-push : goal.invariant_of-push
invariant_of-push c =
    let b = c.args.book.now in
    let id = c.requires.0 in
    let done = c.loop-seat.yielded in
    let seat : SeatTerms = c.in-Some.seat in
    let parts : c.args.seats.items ≡ done ++ seat ∷ c.next.new.self.rest.items =
    c.loop-seat.invariant.seats ∙ ap (λ ss. done ++ ss) c.in-Some.ensures.steps.0 in
    let is = new_seat-at b id c.args.seats.items done c.next.new.self.rest.items seat c.requires.1 parts in
    record {
      pass = subst (λ (s : SeatTerms). IsPass s.knows c.in_ok-totals.totals 0) (sym is)
          (IsPass-starting b (length done) c.in_ok-totals.totals c.in_ok-totals.ensures.upto c.in_ok-totals.ensures.counted);
      calls = c.new-in-loop-seat.ensures.of;
      counted = c.new-in-loop-seat.ensures.totals;
    }

pub loop-seat-preserved : goal.loop-seat-preserved
loop-seat-preserved c =
    let b = c.args.book.now in
    let done = c.loop-seat.yielded in
    let seat : SeatTerms = c.in-Some.seat in
    let left = c.next.new.self.rest.items in
    let passes = c.loop-seat.passes.items in
    let pass : PassTerms = pass_of seat (record { totals = c.in_ok-totals.totals; sent = 0; calls = c.new-in-loop-seat.result }) in
    let parts : c.args.seats.items ≡ done ++ seat ∷ left = c.loop-seat.invariant.seats ∙ ap (λ ss. done ++ ss) c.in-Some.ensures.steps.0 in
    let more : c.push.new.self.items ≡ passes ++ pass ∷ [] = c.in_ok-push.ensures.items in
    record {
      next = tt;
      finite = tt;
      seats = parts ∙ sym (append_assoc done (seat ∷ []) left);
      count = ap (λ (ps : List PassTerms). length ps) more
          ∙ omega (arith, length-append passes (pass ∷ []), length-append done (seat ∷ []), c.loop-seat.invariant.count);
      made = subst (AreNewSoFar b c.args.seats.items) (sym more)
          (AreNewSoFar-more b c.args.seats.items done left seat passes pass c.loop-seat.invariant.made parts c.loop-seat.invariant.count
          refl c.new-in-loop-seat.ensures.none c.new-in-loop-seat.ensures.past c.in_ok-totals.ensures.upto);
    }

pub returns : goal.returns
returns c =
    let all : c.args.seats.items ≡ c.loop-seat.yielded = grind (arith, common_steps) in
    AreNewPasses-all c.args.book.now c.args.seats.items c.loop-seat.passes.items c.loop-seat.invariant.made
    (c.loop-seat.invariant.count ∙ sym (ap (λ (ss : List SeatTerms). length ss) all))
