use Rattle.at_orders.proofs.Prelude.{common_steps, IsPlayable, contents_of, contents_of-pushed, get_or-contents_of, length-contents_of, Call, AreAllCountedBefore, AreCountedBefore}
use Rattle.std.proofs.Common.{ℕ, ◌+◌, List, [], take, sym, subst, ◌∙◌, arith}
use Rattle.at_orders.proofs.Counting.{all-counted-more}
use Rattle.at_orders.proofs.ground.count_all_before.Goals as goal

pub count_before-requires : goal.count_before-requires
count_before-requires c =
    let i : ℕ = c.loop-file.file-index in
    let size = length-contents_of c.args.files.now in
    let within = c.loop-file-test.true in
    record {
      small = c.requires.small;
      playable = subst (IsPlayable c.args.accounts) (get_or-contents_of c.args.files.now i c.file-item.result within c.file-item.is ∙ sym c.as_slice.ensures.value) (c.requires.playable i [] (omega arith));
    }

pub loop-file-preserved : goal.loop-file-preserved
loop-file-preserved c =
    let files : List (List Call) = contents_of c.args.files.now in
    let i : ℕ = c.loop-file.file-index in
    let size = length-contents_of c.args.files.now in
    let within = c.loop-file-test.true in
    let row : List ℕ = c.in_ok-count_before.field-0.items in
    let file = get_or-contents_of c.args.files.now i c.file-item.result within c.file-item.is in
    let counted = subst (λ (calls : List Call). AreCountedBefore calls row) (c.as_slice.ensures.value ∙ sym file) c.in_ok-count_before.ensures in
    subst (AreAllCountedBefore (take (i + 1) files)) (sym (contents_of-pushed c.push.new.self.items c.loop-file.before.items c.in_ok-count_before.field-0 c.in_ok-push.ensures.items))
    (all-counted-more files (contents_of c.loop-file.before.items) i row (omega arith) c.loop-file.invariant counted)

pub returns : goal.returns
returns c = grind (arith, common_steps)

pub bounds-files-file-index : goal.bounds-files-file-index
bounds-files-file-index c = grind (arith, common_steps)

pub loop-file-init : goal.loop-file-init
loop-file-init c = grind (arith, common_steps)
