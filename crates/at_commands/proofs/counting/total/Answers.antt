use Rattle.std.proofs.Common.{◌≡◌, ◌∙◌, ap, get_or, length, arith}
use Rattle.at_commands.proofs.Prelude.{IsCount}
use Rattle.at_commands.proofs.CountLaws.{IsCount-at, sum_by-number_more}
use Rattle.at_commands.proofs.counting.total.Goals as goal

pub index-requires : goal.index-requires
index-requires c =
    let here : IsCount c.file-item.result.items =
    IsCount-at c.args.files.now c.loop-file.file-index c.file-item.result (omega arith) c.file-item.is c.requires.counts in
    let one : length c.file-item.result.items ≡ 1 = ap length here.one in
    omega (arith, one)

pub overflow_add-calls : goal.overflow_add-calls
overflow_add-calls c =
    let here : IsCount c.file-item.result.items =
    IsCount-at c.args.files.now c.loop-file.file-index c.file-item.result (omega arith) c.file-item.is c.requires.counts in
    let number : c.index.result.now ≡ here.number = c.index.ensures ∙ ap (λ given. get_or given 0 c.index.result.now) here.one in
    omega (arith, number, here.few, c.loop-file.invariant.bound)

pub loop-file-preserved : goal.loop-file-preserved
loop-file-preserved c =
    let here : IsCount c.file-item.result.items =
    IsCount-at c.args.files.now c.loop-file.file-index c.file-item.result (omega arith) c.file-item.is c.requires.counts in
    let number : c.index.result.now ≡ here.number = c.index.ensures ∙ ap (λ given. get_or given 0 c.index.result.now) here.one in
    let more = sum_by-number_more c.args.files.now c.loop-file.file-index c.file-item.result here.number (omega arith) c.file-item.is here.one in
    record {
      summed = omega (arith, number, more, c.loop-file.invariant.summed);
      bound = omega (arith, number, here.few, c.loop-file.invariant.bound);
    }
