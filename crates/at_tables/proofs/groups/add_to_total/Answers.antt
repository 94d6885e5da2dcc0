use Rattle.std.proofs.Common.{◌+◌, arith}
use Rattle.at_tables.proofs.GroupLaws.{total_in-step}
use Rattle.at_tables.proofs.groups.add_to_total.Goals as goal

pub returns : goal.returns
returns c = λ others.
    total_in-step c.args.totals.now c.insert.new.self c.args.owners others (c.total_in.result + c.from.result) c.args.payments (omega (arith, c.total_in.ensures, c.from.ensures)) (c.in-Ok.ensures.updates.0 others)
