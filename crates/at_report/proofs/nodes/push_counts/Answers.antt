use Rattle.at_report.proofs.Prelude.{common_steps, spaced, validated_word}
use Rattle.std.proofs.Common.{◌≡◌, ◌∙◌, ◌++◌, [], ◌∷◌, arith}
use Rattle.at_report.proofs.NodeTexts.{spaced-map_more}
use Rattle.at_report.proofs.nodes.push_counts.Goals as goal

pub loop-log-preserved : goal.loop-log-preserved
loop-log-preserved c =
    let word = validated_word c.args.node.now in
    let more : c.push_number.new.out.items ≡ c.loop-log.out.items ++ spaced (word c.loop-log.log ∷ []) =
    rw (← c.validated.ensures.count, ← c.from.ensures) c.in_ok-push_number.ensures.text in
    more ∙ rw c.loop-log.invariant (spaced-map_more word c.args.out.now.items c.loop-log.log)

pub returns : goal.returns
returns c = grind (arith, common_steps)
