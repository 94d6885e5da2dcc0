use Rattle.std.proofs.Common.{[], ◌∷◌, decimal}
use Rattle.at_tables.proofs.Prelude.{join_with_byte, call_fields, replies_words}
use Rattle.at_tables.proofs.FieldLaws.{record_text-last}
use Rattle.at_tables.proofs.orders_table.push_record.Goals as goal

pub returns : goal.returns
returns c =
    rw (c.in_ok-push-2.ensures.items, c.in_ok-push_replies.ensures, c.in_ok-push.ensures.items, c.in_ok-push_call_fields.ensures, c.in_ok-push_number_field.ensures, c.in_ok-extend_from_slice.ensures.items, c.process.ensures.name)
    (record_text-last c.args.out.now.items _ (decimal c.args.number ∷ []) (call_fields c.args.book.now c.args.names.now c.args.process c.args.call.now) (join_with_byte 32 (replies_words c.args.call.now c.args.replies.now)))
