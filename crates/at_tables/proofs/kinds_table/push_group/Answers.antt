use Rattle.at_tables.proofs.Prelude.{common_steps, line_text-words, owner_words}
use Rattle.std.proofs.Common.{decimal, arith}
use Rattle.at_tables.proofs.kinds_table.push_group.Goals as goal

pub returns : goal.returns
returns c =
    let g = c.args.group.now in
    rw (c.in_ok-push.ensures.items, c.in_ok-push_names.ensures, c.as_slice.ensures.value, c.in_ok-push_number.ensures.ok)
    (line_text-words c.args.out.now.items (decimal g.payments.0) (owner_words c.args.names.now g.owners.items))

pub push_names-requires : goal.push_names-requires
push_names-requires c = grind (arith, common_steps)
