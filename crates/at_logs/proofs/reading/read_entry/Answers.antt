use Rattle.std.proofs.Common.{◌^◌, ◌≤◌, arith}
use Rattle.at_logs.proofs.EntryLaws.{returned_entry}
use Rattle.at_logs.proofs.reading.read_entry.Goals as goal

pub returns : goal.returns
returns c =
    let few_accounts : c.args.accounts ≤ 2 ^ 32 = omega (arith, c.requires.few_accounts) in
    let few_processes : c.args.processes ≤ 2 ^ 32 = omega (arith, c.ranges.processes.fits) in
    returned_entry c.args.logs c.args.accounts c.args.processes c.args.bytes.now c.entry_of.result few_accounts few_processes (λ i. omega (arith, c.type_inv.bytes i)) c.entry_of.ensures
