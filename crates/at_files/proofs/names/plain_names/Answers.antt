use Rattle.std.proofs.Common.{◌∙◌, arith}
use Rattle.at_files.proofs.NameLaws.{decimals_below-add}
use Rattle.at_files.proofs.names.plain_names.Goals as goal

pub loop-n-preserved : goal.loop-n-preserved
loop-n-preserved c =
    decimals_below-add c.loop-n.names _ _ c.in-Ok._added c.loop-n.n (omega arith) c.loop-n.invariant (c.as_bytes.ensures.value ∙ c.format.ensures.text) c.in-Ok.ensures.added c.in-Ok.ensures.names
