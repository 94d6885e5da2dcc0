use Rattle.std.proofs.Common.{◌≡◌, ◌+◌, ◌/◌, ◌%◌, ◌++◌, ◌∷◌, [], length, length-append, sym, ap, ◌∙◌}
use Rattle.at_c.proofs.Prelude.{IsOwned, Owner}
use Rattle.at_c.proofs.Places.{AreOwned-push}
use Rattle.at_c.proofs.shared.places_of.Goals as goal

pub loop-i-preserved : goal.loop-i-preserved
loop-i-preserved g c =
    let kept = c.loop-i.invariant in
    let o : Owner = record { ledger = c.of.result; process = c.loop-i.i / c.args.each; to = c.loop-i.i % c.args.each } in
    let same : c.new.result ≡ o = c.new.ensures in
    let owned : IsOwned c.args.ledger.now (length c.loop-i.places.items / c.args.each) (length c.loop-i.places.items % c.args.each) o = record { ledger_is = c.of.ensures; process_is = ap (λ n. n / c.args.each) (sym kept.count); to_is = ap (λ n. n % c.args.each) (sym kept.count) } in
    let more = c.in_ok-push.ensures.items ∙ ap (λ (x : Owner). c.loop-i.places.items ++ x ∷ []) same in
    record {
      count = ap length more ∙ length-append c.loop-i.places.items (o ∷ []) ∙ ap (λ n. n + 1) kept.count;
      owned = AreOwned-push c.args.ledger.now c.args.each c.loop-i.places.items c.push.new.self.items o kept.owned owned more;
    }
