use Rattle.at_orders.proofs.Prelude.{common_steps, contents_of, contents_of-pushed, AreFilesAnswers, Replies}
use Rattle.std.proofs.Common.{◌+◌, List, sym, subst, arith}
use Rattle.at_orders.proofs.Merging.{files-answers-more}
use Rattle.at_orders.proofs.whole.whole.Goals as goal

pub loop-process-preserved : goal.loop-process-preserved
loop-process-preserved c =
    let b = c.args.book.now in
    subst (λ (answers : List (List Replies)). AreFilesAnswers b (contents_of c.args.files.now) answers (c.loop-process.process + 1))
    (sym (contents_of-pushed c.push.new.self.items c.loop-process.answers.items c.in_ok-replies_of.field-0 c.in_ok-push.ensures.items))
    (files-answers-more b (contents_of c.args.files.now) (contents_of c.loop-process.answers.items) c.loop-process.process c.in_ok-replies_of.field-0.items c.loop-process.invariant c.in_ok-replies_of.ensures)

pub replies_of-requires-clause-done : goal.replies_of-requires-clause-done
replies_of-requires-clause-done c = grind (arith, common_steps)

pub loop-process-init : goal.loop-process-init
loop-process-init c = grind (arith, common_steps)

pub returns : goal.returns
returns c = grind (arith, common_steps)

pub replies_of-requires-clause-processes : goal.replies_of-requires-clause-processes
replies_of-requires-clause-processes c = grind (arith, common_steps)

pub replies_of-requires-clause-process_in : goal.replies_of-requires-clause-process_in
replies_of-requires-clause-process_in c = grind (arith, common_steps)

pub replies_of-requires-clause-files : goal.replies_of-requires-clause-files
replies_of-requires-clause-files c = grind (arith, common_steps)
