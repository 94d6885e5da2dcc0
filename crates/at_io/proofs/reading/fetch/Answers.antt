use Rattle.std.proofs.Common.{arith}
use Rattle.at_io.proofs.Prelude.{common_steps}
use Rattle.at_io.proofs.reading.fetch.Goals as goal

pub returns-in-Err-clause-emptied : goal.returns-in-Err-clause-emptied
returns-in-Err-clause-emptied g c = cc

pub returns-in-Err-clause-later : goal.returns-in-Err-clause-later
returns-in-Err-clause-later c = grind (arith, common_steps)

pub returns-in-Ok-clause-size : goal.returns-in-Ok-clause-size
returns-in-Ok-clause-size c = grind (arith, common_steps)

pub returns-in-Ok-clause-too_long : goal.returns-in-Ok-clause-too_long
returns-in-Ok-clause-too_long c = grind (arith, common_steps)

pub returns-in-Err-clause-failed : goal.returns-in-Err-clause-failed
returns-in-Err-clause-failed c = grind (arith, common_steps)

pub returns-then-is_err-clause-too_long_kept : goal.returns-then-is_err-clause-too_long_kept
returns-then-is_err-clause-too_long_kept c = grind (arith, common_steps)

pub returns-then-is_err-clause-too_long : goal.returns-then-is_err-clause-too_long
returns-then-is_err-clause-too_long c = grind (arith, common_steps)

pub returns-then-is_err-clause-later : goal.returns-then-is_err-clause-later
returns-then-is_err-clause-later c = grind (arith, common_steps)

pub returns-in-Err-clause-no_memory_kept : goal.returns-in-Err-clause-no_memory_kept
returns-in-Err-clause-no_memory_kept c = grind (arith, common_steps)

pub returns-in-Err-clause-too_long : goal.returns-in-Err-clause-too_long
returns-in-Err-clause-too_long c = grind (arith, common_steps)

pub returns-in-Ok-clause-files : goal.returns-in-Ok-clause-files
returns-in-Ok-clause-files c = grind (arith, common_steps)

pub returns-then-is_err-clause-read_past : goal.returns-then-is_err-clause-read_past
returns-then-is_err-clause-read_past c = grind (arith, common_steps)

pub returns-in-Ok-clause-kept : goal.returns-in-Ok-clause-kept
returns-in-Ok-clause-kept c = grind (arith, common_steps)

pub returns-in-Ok-clause-contents : goal.returns-in-Ok-clause-contents
returns-in-Ok-clause-contents c = grind (arith, common_steps)

pub returns-in-Err-clause-files : goal.returns-in-Err-clause-files
returns-in-Err-clause-files c = grind (arith, common_steps)

pub returns-in-Ok-clause-later : goal.returns-in-Ok-clause-later
returns-in-Ok-clause-later c = grind (arith, common_steps)

pub returns-then-is_err-clause-no_memory_kept : goal.returns-then-is_err-clause-no_memory_kept
returns-then-is_err-clause-no_memory_kept c = grind (arith, common_steps)

pub returns-in-Err-clause-too_long_kept : goal.returns-in-Err-clause-too_long_kept
returns-in-Err-clause-too_long_kept c = grind (arith, common_steps)

pub returns-in-Ok-clause-no_memory_kept : goal.returns-in-Ok-clause-no_memory_kept
returns-in-Ok-clause-no_memory_kept c = grind (arith, common_steps)

pub returns-in-Ok-clause-failed : goal.returns-in-Ok-clause-failed
returns-in-Ok-clause-failed c = grind (arith, common_steps)

pub returns-in-Ok-clause-too_long_kept : goal.returns-in-Ok-clause-too_long_kept
returns-in-Ok-clause-too_long_kept c = grind (arith, common_steps)

pub returns-then-is_err-clause-failed : goal.returns-then-is_err-clause-failed
returns-then-is_err-clause-failed c = grind (arith, common_steps)

pub returns-in-Err-clause-read_past : goal.returns-in-Err-clause-read_past
returns-in-Err-clause-read_past c = grind (arith, common_steps)

pub returns-in-Ok-clause-read_past : goal.returns-in-Ok-clause-read_past
returns-in-Ok-clause-read_past c = grind (arith, common_steps)
