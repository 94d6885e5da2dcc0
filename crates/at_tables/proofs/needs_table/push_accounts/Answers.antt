use Rattle.std.proofs.Common.{ℕ, List, ◌∙◌}
use Rattle.at_tables.proofs.Prelude.{contents_of, Words, records_text-flat_map_more, row_number, needs_of_account}
use Rattle.at_tables.proofs.needs_table.push_accounts.Goals as goal

pub loop-account-preserved : goal.loop-account-preserved
loop-account-preserved c =
    let records : ℕ → List Words = λ a. needs_of_account c.args.book.now c.args.names.now (row_number (contents_of c.args.rows.now) a) a in
    c.in_ok-push_account.ensures ∙ rw c.loop-account.invariant (records_text-flat_map_more records c.args.out.now.items c.loop-account.account)
