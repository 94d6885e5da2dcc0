use Rattle.std.proofs.Common.{List, map, ◌∷◌, ◌++◌, [], ap, sym, ◌∙◌, arith}
use Rattle.at_logs.proofs.Prelude.{range_with_len, map-range_with_len_more, Message, message_in_log}
use Rattle.at_logs.proofs.entry.Entry.messages_in_log.Goals as goal

pub loop-i-preserved : goal.loop-i-preserved
loop-i-preserved c =
    c.in_ok-push.ensures.items
    ∙ (ap (λ (l : List Message). l ++ c.message.result ∷ []) c.loop-i.invariant
    ∙ (ap (λ (m : Message). map (message_in_log c.args.self.now c.args.log) (range_with_len 0 c.loop-i.i) ++ m ∷ []) c.message.ensures.message
    ∙ sym (map-range_with_len_more (message_in_log c.args.self.now c.args.log) 0 c.loop-i.i c.loop-i.i (omega arith))))
