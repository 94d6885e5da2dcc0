use Rattle.std.proofs.Common.{◌∙◌, ap, arith, length, length-append, [], ◌∷◌, None}
use Rattle.at_broadcast.proofs.Prelude.{filled}
use Rattle.at_broadcast.proofs.FilledLaws.{filled-push}
use Rattle.at_broadcast.proofs.delivered.fill.Goals as goal

pub loop-place-preserved : goal.loop-place-preserved
loop-place-preserved c =
    let is = c.loop-place.invariant in
    let longer = ap length c.in_ok-push.ensures.items in
    record {
      same = ap filled c.in_ok-push.ensures.items ∙ (filled-push c.loop-place.messages.items (omega arith) ∙ is.same);
      few = omega (arith, longer, length-append c.loop-place.messages.items (None ∷ []));
      reached = omega (arith, longer, length-append c.loop-place.messages.items (None ∷ []));
    }
