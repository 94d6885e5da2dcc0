use Rattle.std.proofs.Common.{refl, arith}
use Rattle.at_commands.proofs.GeneratedBook.{range_with_len_more}
use Rattle.at_commands.proofs.generating.all_processes.Goals as goal

pub loop-process-preserved : goal.loop-process-preserved
loop-process-preserved c =
    let more = range_with_len_more 0 c.loop-process.process c.loop-process.process (omega arith) in
    rw (c.in_ok-push.ensures.items, c.loop-process.invariant, c.from.ensures, more) refl
