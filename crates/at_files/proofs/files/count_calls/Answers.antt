use Rattle.std.proofs.Common.{◌<◌, ◌≤◌, length, arith}
use Rattle.at_files.proofs.Prelude.{common_steps, file_few, sum_by-contents_of_more}
use Rattle.at_files.proofs.files.count_calls.Goals as goal

pub overflow_cast-calls : goal.overflow_cast-calls
overflow_cast-calls c =
    let few : length c.file-item.result.items ≤ 16384 = file_few c.args.files.now c.loop-file.file-index c.file-item.result (omega arith) c.file-item.is c.requires.calls in
    omega (arith, few, c.len.ensures)

pub overflow_add-calls : goal.overflow_add-calls
overflow_add-calls c =
    let few : length c.file-item.result.items ≤ 16384 = file_few c.args.files.now c.loop-file.file-index c.file-item.result (omega arith) c.file-item.is c.requires.calls in
    omega (arith, few, c.len.ensures, c.loop-file.invariant.bound)

pub loop-file-preserved : goal.loop-file-preserved
loop-file-preserved c =
    let within : c.loop-file.file-index < length c.args.files.now = omega arith in
    let few : length c.file-item.result.items ≤ 16384 = file_few c.args.files.now c.loop-file.file-index c.file-item.result within c.file-item.is c.requires.calls in
    let more = sum_by-contents_of_more c.args.files.now c.loop-file.file-index c.file-item.result within c.file-item.is in
    record {
      counted = omega (arith, more, c.len.ensures, c.loop-file.invariant.counted);
      bound = omega (arith, few, c.len.ensures, c.loop-file.invariant.bound);
    }

pub returns : goal.returns
returns c = grind (arith, common_steps)
