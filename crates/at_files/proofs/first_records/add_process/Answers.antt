use Rattle.std.proofs.Common.{◌≡◌, nat_le, length, false, arith}
use Rattle.at_files.proofs.Prelude.{common_steps, nat_tests}
use Rattle.at_files.proofs.first_records.add_process.Goals as goal

pub returns-clause-ok : goal.returns-clause-ok
returns-clause-ok c =
    let count = c.len.ensures.count in
    let few = c.if-len.false in
    let room : nat_le 16 (length c.args.names.now) ≡ false = grind (arith, nat_tests) in
    rw room c.add_name.ensures.ok

pub returns-clause-bad : goal.returns-clause-bad
returns-clause-bad c = λ b same.
    let count = c.len.ensures.count in
    let few = c.if-len.false in
    let room : nat_le 16 (length c.args.names.now) ≡ false = grind (arith, nat_tests) in
    rw room (c.add_name.ensures.bad b same)

pub returns-then-len-clause-bad : goal.returns-then-len-clause-bad
returns-then-len-clause-bad c = grind (arith, common_steps)
