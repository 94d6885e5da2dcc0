use Rattle.at_orders.proofs.Prelude.{Call, get_or-contents_of, common_steps, contents_of, AreFirstAnswers, Replies}
use Rattle.std.proofs.Common.{◌+◌, List, sym, subst, arith, ◌≡◌, ◌∙◌, ap, length}
use Rattle.at_orders.proofs.Merging.{first-answers-more}
use Rattle.at_orders.proofs.whole.replies_of.Goals as goal

pub loop-i-preserved : goal.loop-i-preserved
loop-i-preserved c =
    subst (λ (answers : List Replies). AreFirstAnswers c.args.book.now (contents_of c.args.files.now) c.args.process answers (c.loop-i.i + 1)) (sym c.in_ok-push.ensures.items)
    (first-answers-more c.args.book.now (contents_of c.args.files.now) c.args.process c.loop-i.replies.items c.loop-i.i c.reply_to.result c.loop-i.invariant c.reply_to.ensures)

pub reply_to-requires-clause-call_in : goal.reply_to-requires-clause-call_in
reply_to-requires-clause-call_in c = grind (arith, common_steps)

pub loop-i-init : goal.loop-i-init
loop-i-init c = grind (arith, common_steps)

pub reply_to-requires-clause-processes : goal.reply_to-requires-clause-processes
reply_to-requires-clause-processes c = grind (arith, common_steps)

pub reply_to-requires-clause-process_in : goal.reply_to-requires-clause-process_in
reply_to-requires-clause-process_in c = grind (arith, common_steps)

pub reply_to-requires-clause-done : goal.reply_to-requires-clause-done
reply_to-requires-clause-done c = grind (arith, common_steps)

pub returns : goal.returns
returns c =
    let size = c.len-i-end.ensures in
    let past = c.loop-i-test.false in
    let end = c.loop-i.auto.i-end in
    let here = c.requires.process_in in
    let count = c.requires.processes in
    let file = get_or-contents_of c.args.files.now c.args.process c.index-files-process.result (omega arith) c.index-files-process.is in
    let all : c.loop-i.i ≡ length c.index-files-process.result.items = omega arith in
    subst (AreFirstAnswers c.args.book.now (contents_of c.args.files.now) c.args.process c.loop-i.replies.items) (all ∙ ap (length {A = Call}) (sym file)) c.loop-i.invariant
