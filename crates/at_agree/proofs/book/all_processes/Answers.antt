use Rattle.std.proofs.Common.{◌≡◌, ◌+◌, refl, arith}
use Rattle.at_agree.proofs.Prelude.{range_with_len-more}
use Rattle.at_agree.proofs.book.all_processes.Goals as goal

pub loop-process-preserved : goal.loop-process-preserved
loop-process-preserved c =
    let more = range_with_len-more 0 c.loop-process.process in
    let last : 0 + c.loop-process.process ≡ c.loop-process.process = omega arith in
    rw (c.in_ok-push.ensures.items, c.loop-process.invariant, c.from.ensures, more, last) refl
