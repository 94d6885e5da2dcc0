use Rattle.std.proofs.Common.{◌^◌, ◌≤◌, length, arith}
use Rattle.at_logs.proofs.SavedLaws.{returned_saved}
use Rattle.at_logs.proofs.restoring.read_saved.Goals as goal

pub returns : goal.returns
returns c =
    let few_accounts : length c.args.book.accounts ≤ 2 ^ 32 = omega (arith, c.requires) in
    let few_logs : c.args.book.logs ≤ 2 ^ 32 = omega (arith, c.known.ensures.few_logs) in
    returned_saved c.args.book c.args.bytes.now c.saved_of.result few_logs few_accounts (λ i. omega (arith, c.type_inv.bytes i)) c.saved_of.ensures
