use Rattle.at_tables.proofs.Prelude.{common_steps, IsPlayable, contents_of, get_or-contents_of, length-contents_of, IsCallOn, Call}
use Rattle.std.proofs.Common.{◌≡◌, ◌*◌, ◌-◌, [], List, All, length, sym, subst, ◌∙◌, arith}
use Rattle.at_tables.proofs.CountLaws.{counts-more, room_after, less_room}
use Rattle.at_tables.proofs.counts.count.Goals as goal

pub add_all-requires-clause-calls_in : goal.add_all-requires-clause-calls_in
add_all-requires-clause-calls_in c =
    let size : length (contents_of c.args.files.now) ≡ length c.args.files.now = length-contents_of c.args.files.now in
    let file = get_or-contents_of c.args.files.now c.loop-process.process c.index-files-process.result (omega arith) c.index-files-process.is in
    let playable = c.requires.files c.loop-process.process [] (omega arith) in
    subst (λ (calls : List Call). All (IsCallOn (length c.args.book.now.accounts)) calls) (file ∙ sym c.as_slice.ensures.value) playable.known

pub add_all-requires-clause-room : goal.add_all-requires-clause-room
add_all-requires-clause-room c =
    let size : length (contents_of c.args.files.now) ≡ length c.args.files.now = length-contents_of c.args.files.now in
    let file = get_or-contents_of c.args.files.now c.loop-process.process c.index-files-process.result (omega arith) c.index-files-process.is in
    let playable = subst (IsPlayable (length c.args.book.now.accounts)) (file ∙ sym c.as_slice.ensures.value) (c.requires.files c.loop-process.process [] (omega arith)) in
    let few = c.accounts.ensures.checked.begun.few_processes in
    less_room c.loop-process.counts (16384 * (16 - c.loop-process.process)) (length c.as_slice.result.now) (omega (arith, playable.few)) c.loop-process.invariant.room

pub loop-process-preserved : goal.loop-process-preserved
loop-process-preserved c =
    let size : length (contents_of c.args.files.now) ≡ length c.args.files.now = length-contents_of c.args.files.now in
    let file = get_or-contents_of c.args.files.now c.loop-process.process c.index-files-process.result (omega arith) c.index-files-process.is in
    let same = file ∙ sym c.as_slice.ensures.value in
    let playable = subst (IsPlayable (length c.args.book.now.accounts)) same (c.requires.files c.loop-process.process [] (omega arith)) in
    let few = c.accounts.ensures.checked.begun.few_processes in
    record {
      counts = counts-more c.args.book.now (contents_of c.args.files.now) c.loop-process.process c.as_slice.result.now c.loop-process.counts c.add_all.new.counts same c.loop-process.invariant.counts c.add_all.ensures;
      room =
          room_after c.args.book.now c.loop-process.process c.as_slice.result.now c.loop-process.counts c.add_all.new.counts (16384 * (16 - c.loop-process.process)) _ (omega (arith, playable.few))
          c.loop-process.invariant.room c.add_all.ensures;
    }

pub loop-process-init : goal.loop-process-init
loop-process-init c = grind (arith, common_steps)

pub add_all-requires-clause-accounts : goal.add_all-requires-clause-accounts
add_all-requires-clause-accounts c = grind (arith, common_steps)

pub offset_bounds-files-process : goal.offset_bounds-files-process
offset_bounds-files-process c = grind (arith, common_steps)

pub overflow_cast-process : goal.overflow_cast-process
overflow_cast-process c = grind (arith, common_steps)
