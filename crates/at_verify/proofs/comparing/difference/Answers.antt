use Rattle.std.proofs.Common.{sym, ◌∙◌, arith}
use Rattle.at_verify.proofs.Prelude.{take_all}
use Rattle.at_verify.proofs.comparing.difference.Goals as goal

pub returns-clause-same : goal.returns-clause-same
returns-clause-same c is =
    sym (take_all c.common-same.result c.args.x.now (omega arith))
    ∙ (c.common-same.ensures.same ∙ take_all c.common-same.result c.args.y.now (omega arith))
