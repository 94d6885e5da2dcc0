use Rattle.at_report.proofs.Prelude.{common_steps, call_words, reply_word, spaced}
use Rattle.std.proofs.Common.{◌≡◌, ◌++◌, ◌∷◌, [], decimal, append_assoc, arith}
use Rattle.at_report.proofs.LineLaws.{OnErr-starts_before, line_text-parts}
use Rattle.at_report.proofs.lines.push_parts.Goals as goal

pub returns-in_err-push_call-clause-begun : goal.returns-in_err-push_call-clause-begun
returns-in_err-push_call-clause-begun c =
    let start : c.extend_from_slice.new.self.items ≡ c.args.out.now.items ++ c.process.result.now = c.in_ok-extend_from_slice.ensures.items in
    OnErr-starts_before c.from_residual-in_err-push_call.result c.push_call.new.out.items c.push_number.new.out.items c.args.out.now.items
    (c.process.result.now ++ spaced (decimal c.from.result ∷ [])) (rw (c.in_ok-push_number.ensures.text, start) (simp append_assoc))
    c.in_err-push_call.ensures.begun

pub returns-in_err-push_reply-clause-begun : goal.returns-in_err-push_reply-clause-begun
returns-in_err-push_reply-clause-begun c =
    let start : c.extend_from_slice.new.self.items ≡ c.args.out.now.items ++ c.process.result.now = c.in_ok-extend_from_slice.ensures.items in
    OnErr-starts_before c.from_residual-in_err-push_reply.result c.push_reply.new.out.items c.push_call.new.out.items c.args.out.now.items
    (c.process.result.now ++ (spaced (decimal c.from.result ∷ []) ++ spaced (call_words c.args.names.now c.args.line.now.call.now)))
    (rw (c.in_ok-push_call.ensures.text, c.in_ok-push_number.ensures.text, start) (simp append_assoc))
    c.in_err-push_reply.ensures.begun

pub returns-clause-text : goal.returns-clause-text
returns-clause-text c =
    let start : c.extend_from_slice.new.self.items ≡ c.args.out.now.items ++ c.process.result.now = c.in_ok-extend_from_slice.ensures.items in
    rw (c.in_ok-push.ensures.items, c.in_ok-push_reply.ensures.text, c.in_ok-push_call.ensures.text, c.in_ok-push_number.ensures.text, c.from.ensures, start, c.process.ensures.name)
    (line_text-parts c.args.out.now.items _ (decimal c.args.line.now.number) (reply_word c.args.line.now.reply) (call_words c.args.names.now c.args.line.now.call.now))

pub returns-in_err-extend_from_slice-clause-begun : goal.returns-in_err-extend_from_slice-clause-begun
returns-in_err-extend_from_slice-clause-begun c = grind (arith, common_steps)

pub returns-in_err-push-clause-begun : goal.returns-in_err-push-clause-begun
returns-in_err-push-clause-begun c = grind (arith, common_steps)
