use Rattle.std.proofs.Common.{◌≡◌, nat_lt, true, refl, arith}
use Rattle.at_files.proofs.Prelude.{nat_tests}
use Rattle.at_files.proofs.schedule.turn_among.Goals as goal

pub returns : goal.returns
returns c =
    let is = c.from.ensures in
    let below = c.if-process-from.false in
    let test : nat_lt c.args.process c.args.processes ≡ true = grind (arith, nat_tests) in
    rw test refl
