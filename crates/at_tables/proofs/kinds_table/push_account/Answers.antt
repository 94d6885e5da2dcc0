use Rattle.at_tables.proofs.Prelude.{common_steps, account_of, owner_words, use_word}
use Rattle.std.proofs.Common.{decimal, arith}
use Rattle.at_tables.proofs.KindsTextLaws.{line_text-account}
use Rattle.at_tables.proofs.kinds_table.push_account.Goals as goal

pub returns : goal.returns
returns c =
    let t = account_of c.args.book.now c.args.account in
    rw (c.in_ok-push.ensures.items, c.in_ok-push_owners.ensures, c.in_ok-push_number.ensures.text, c.from.ensures, c.in_ok-push_word.ensures.text, c.use_word.ensures, c.in_ok-extend_from_slice.ensures.items, c.account.ensures.name)
    (line_text-account c.args.out.now.items _ (use_word t) (decimal c.args.payments) (owner_words c.args.names.now t.owners))

pub push_owners-requires-clause-names : goal.push_owners-requires-clause-names
push_owners-requires-clause-names c = grind (arith, common_steps)

pub push_owners-requires-clause-account_in : goal.push_owners-requires-clause-account_in
push_owners-requires-clause-account_in c = grind (arith, common_steps)

pub use_word-requires : goal.use_word-requires
use_word-requires c = grind (arith, common_steps)
