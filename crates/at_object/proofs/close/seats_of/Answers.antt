use Rattle.std.proofs.Common.{◌≡◌, List, [], ◌∷◌, ◌++◌, map, sym, ap, subst, ◌∙◌, append_assoc, arith}
use Rattle.at_object.proofs.Prelude.{All-push, SeatTerms, IsAtRest, PassTerms, seat_of, All}
use Rattle.at_object.proofs.close.seats_of.Goals as goal

pub loop-pass-preserved : goal.loop-pass-preserved
loop-pass-preserved c =
    let seats = c.loop-pass.seats.items in
    let seat : SeatTerms = c.into_parts-seat.result.0 in
    let left = c.next.new.self.rest.items in
    let kept = c.loop-pass.invariant in
    let more : c.push_reserved.new.self.items ≡ seats ++ seat ∷ [] = c.push_reserved.ensures.items in
    let next : c.loop-pass.pass-iterator.rest.items ≡ c.in-Some.pass ∷ left = c.in-Some.ensures.steps.0 in
    record {
      next = tt;
      finite = tt;
      seats =
          kept.seats
          ∙ (ap (λ (ps : List PassTerms). seats ++ map seat_of ps) next
          ∙ (ap (λ (p : PassTerms). seats ++ seat_of p ∷ map seat_of left) (sym c.into_parts-seat.ensures.pass)
          ∙ (sym (append_assoc seats (seat ∷ []) (map seat_of left)) ∙ ap (λ ss. ss ++ map seat_of left) (sym more))));
      at_rest = subst (All IsAtRest) (sym more)
          (All-push IsAtRest seats seat kept.at_rest (record { kept = c.known.ensures.seat; between = c.into_parts-seat.ensures.kept.pass.between }));
      room = omega (arith, kept.room, c.push_reserved.ensures.len, c.push_reserved.ensures.capacity, c.in-Some.ensures.steps.1);
    }
