use Rattle.std.proofs.Common.{[], ◌∷◌, decimal}
use Rattle.at_tables.proofs.Prelude.{call_fields, Words, reply_word, record_text-three, most_exchanges, most_steps}
use Rattle.at_tables.proofs.costs_table.push_record.Goals as goal

pub returns : goal.returns
returns c =
    let b = c.args.book.now in
    let r = c.args.receipt.now in
    let cost = c.args.cost.now in
    let called : Words = call_fields b c.args.names.now c.args.process r.call in
    let costs : Words =
    reply_word r.reply ∷ decimal cost.steps ∷ decimal cost.exchanges ∷ decimal cost.new_records ∷ decimal (most_steps b r.call r.reply cost.new_records) ∷ decimal (most_exchanges b r.call r.reply) ∷ [] in
    rw (c.in_ok-push.ensures.items, c.in_ok-push_cost.ensures, c.in_ok-push_call_fields.ensures, c.in_ok-push_number_field.ensures, c.in_ok-extend_from_slice.ensures.items, c.process.ensures.name)
    (record_text-three c.args.out.now.items _ (decimal c.args.number ∷ []) called costs)
