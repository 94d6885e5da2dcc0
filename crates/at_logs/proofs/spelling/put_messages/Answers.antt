use Rattle.std.proofs.Common.{◌≡◌, get_or, inl, inr, subst, sym, arith}
use Rattle.std.proofs.lemmas.Grind.{common_steps}
use Rattle.at_logs.proofs.Prelude.{HasMessageBytes, cases_lt, get_or_read}
use Rattle.at_logs.proofs.spelling.put_messages.Goals as goal

pub loop-message-preserved : goal.loop-message-preserved
loop-message-preserved c =
    let i = c.loop-message.message-index in
    let does = c.in_ok-put_message.ensures in
    record {
      spelled = grind (arith, common_steps);
      long = omega (arith, does.small, c.loop-message.invariant.long);
      fits = λ k d within.
          elim (cases_lt k i) as (λ _. HasMessageBytes (get_or c.args.messages.now k d)) [
            | inl before ↦ c.loop-message.invariant.fits k d before
            | inr after ↦
                let last : k ≡ i = omega (arith, within, after) in
                subst (λ j. HasMessageBytes (get_or c.args.messages.now j d)) (sym last)
                (subst HasMessageBytes (get_or_read c.args.messages.now i c.message-item.result c.loop-message-test.true c.message-item.is d) does.fits)
          ];
    }
