use Rattle.at_orders.proofs.Prelude.{with_items, with_items_is, contents_of, get_or-contents_of, length-contents_of, IsCallOn, Call, AreLeft, asked_in_file, asked_in_files}
use Rattle.std.proofs.Common.{◌≡◌, ℕ, ◌+◌, [], List, Option, Some, length, get_or, map, All, refl, sym, subst, ◌∙◌, arith}
use Rattle.at_orders.proofs.Leaving.{left-begun, left-file, left-tells}
use Rattle.at_orders.proofs.covered.left_of_all.Goals as goal

pub loop-process-init : goal.loop-process-init
loop-process-init c =
    let b = c.args.book.now in
    let files : List (List Call) = contents_of c.args.files.now in
    let opens : List (Option ℕ) = map (λ t. Some t.opening) b.accounts in
    subst (λ (xs : List (Option ℕ)). AreLeft b (λ a. asked_in_files b a files 0) opens xs) (sym c.in_ok-left.ensures) (left-begun b files opens)

pub take_all-requires-clause-calls : goal.take_all-requires-clause-calls
take_all-requires-clause-calls c =
    let files : List (List Call) = contents_of c.args.files.now in
    let p = c.loop-process.process in
    let size = length-contents_of c.args.files.now in
    let n = c.requires.processes in
    let h = c.loop-process-test.true in
    let m = c.processes-process-end.ensures in
    let file : get_or files p [] ≡ c.as_slice-file.result.now =
    get_or-contents_of c.args.files.now p c.index-files-process.result (omega arith) c.index-files-process.is ∙ sym c.as_slice-file.ensures.value in
    subst (λ (calls : List Call). All (IsCallOn (length c.args.book.now.accounts)) calls) file (c.requires.files p [] (omega arith)).known

pub loop-process-preserved : goal.loop-process-preserved
loop-process-preserved c =
    let b = c.args.book.now in
    let files : List (List Call) = contents_of c.args.files.now in
    let opens : List (Option ℕ) = map (λ t. Some t.opening) b.accounts in
    let p = c.loop-process.process in
    let size = length-contents_of c.args.files.now in
    let n = c.requires.processes in
    let h = c.loop-process-test.true in
    let m = c.processes-process-end.ensures in
    let file : get_or files p [] ≡ c.as_slice-file.result.now =
    get_or-contents_of c.args.files.now p c.index-files-process.result (omega arith) c.index-files-process.is ∙ sym c.as_slice-file.ensures.value in
    let new : List (Option ℕ) = c.take_all.new.left in
    let taken : AreLeft b (λ a. asked_in_file b p a c.as_slice-file.result.now) c.as_mut_slice.result.now new = c.take_all.ensures in
    let took : AreLeft b (λ a. asked_in_file b p a (get_or files p [])) c.loop-process.left.items new =
    subst (λ (old : List (Option ℕ)). AreLeft b (λ a. asked_in_file b p a (get_or files p [])) old new) c.as_mut_slice.ensures.value
    (subst (λ (calls : List Call). AreLeft b (λ a. asked_in_file b p a calls) c.as_mut_slice.result.now new) (sym file) taken) in
    let items : (with_items c.loop-process.left new).items ≡ new = with_items_is c.loop-process.left new (c.take_all.ensures.accounts ∙ c.as_mut_slice.ensures.len) in
    subst (λ (xs : List (Option ℕ)). AreLeft b (λ a. asked_in_files b a files (p + 1)) opens xs) (sym items)
    (left-file b files p opens c.loop-process.left.items new c.loop-process.invariant took)

pub returns : goal.returns
returns c =
    let b = c.args.book.now in
    let files : List (List Call) = contents_of c.args.files.now in
    let opens : List (Option ℕ) = map (λ t. Some t.opening) b.accounts in
    let size = length-contents_of c.args.files.now in
    let n = c.requires.processes in
    let m = c.processes-process-end.ensures in
    let end = c.loop-process.auto.process-end in
    let over = c.loop-process-test.false in
    left-tells b files c.loop-process.process opens c.loop-process.left.items (omega arith) refl c.loop-process.invariant
