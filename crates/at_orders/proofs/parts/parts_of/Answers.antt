use Rattle.std.proofs.Common.{◌≡◌, ℕ, [], List, length, get_or, All, sym, subst, ◌∙◌, arith}
use Rattle.at_orders.proofs.Prelude.{contents_of, get_or-contents_of, length-contents_of, IsCallOn, Call, AreJoining, AreTouched, PaysIn, TellCovered}
use Rattle.at_orders.proofs.Joining.{files-joined-more, files-joined-none, parts-are}
use Rattle.at_orders.proofs.parts.parts_of.Goals as goal

pub loop-process-init : goal.loop-process-init
loop-process-init c =
    let files : List (List Call) = contents_of c.args.files.now in
    files-joined-none c.args.book.now files c.in_ok-parts.parts (c.in_ok-parts.ensures files (length-contents_of c.args.files.now ∙ c.requires.processes))

pub add_file-requires-clause-calls : goal.add_file-requires-clause-calls
add_file-requires-clause-calls c =
    let b = c.args.book.now in
    let files : List (List Call) = contents_of c.args.files.now in
    let p : ℕ = c.loop-process.process in
    let size = length-contents_of c.args.files.now in
    let n = c.requires.processes in
    let h = c.loop-process-test.true in
    let m = c.processes-process-end.ensures in
    let file : get_or files p [] ≡ c.as_slice-file.result.now =
    get_or-contents_of c.args.files.now p c.index-files-process.result (omega arith) c.index-files-process.is ∙ sym c.as_slice-file.ensures.value in
    subst (λ (calls : List Call). All (IsCallOn (length b.accounts)) calls) file (c.requires.files p [] (omega arith)).known

pub add_file-requires-clause-joining : goal.add_file-requires-clause-joining
add_file-requires-clause-joining c =
    let b = c.args.book.now in
    let files : List (List Call) = contents_of c.args.files.now in
    let p : ℕ = c.loop-process.process in
    let size = length-contents_of c.args.files.now in
    let n = c.requires.processes in
    let h = c.loop-process-test.true in
    let m = c.processes-process-end.ensures in
    let file : get_or files p [] ≡ c.as_slice-file.result.now =
    get_or-contents_of c.args.files.now p c.index-files-process.result (omega arith) c.index-files-process.is ∙ sym c.as_slice-file.ensures.value in
    let tells : TellCovered b files c.as_slice.result.now = subst (TellCovered b files) (sym c.as_slice.ensures.value) c.in_ok-left.ensures in
    let joining : AreJoining b files c.as_slice.result.now p c.loop-process.parts = record { joined = c.loop-process.invariant.joined; tells = tells; within = omega arith } in
    record { files = files; joining = joining; touches = λ a pays. subst (λ (calls : List Call). PaysIn b p calls a) (sym file) pays }

pub loop-process-preserved : goal.loop-process-preserved
loop-process-preserved c =
    let b = c.args.book.now in
    let files : List (List Call) = contents_of c.args.files.now in
    let p : ℕ = c.loop-process.process in
    let size = length-contents_of c.args.files.now in
    let n = c.requires.processes in
    let h = c.loop-process-test.true in
    let m = c.processes-process-end.ensures in
    let file : get_or files p [] ≡ c.as_slice-file.result.now =
    get_or-contents_of c.args.files.now p c.index-files-process.result (omega arith) c.index-files-process.is ∙ sym c.as_slice-file.ensures.value in
    let tells : TellCovered b files c.as_slice.result.now = subst (TellCovered b files) (sym c.as_slice.ensures.value) c.in_ok-left.ensures in
    let joining : AreJoining b files c.as_slice.result.now p c.loop-process.parts = record { joined = c.loop-process.invariant.joined; tells = tells; within = omega arith } in
    let touched : AreTouched b files p (PaysIn b p c.as_slice-file.result.now) c.loop-process.parts c.add_file.new.self =
    c.add_file.ensures files joining (λ a pays. subst (λ (calls : List Call). PaysIn b p calls a) (sym file) pays) in
    files-joined-more b files p c.loop-process.parts c.add_file.new.self c.loop-process.invariant
    (subst (λ (calls : List Call). AreTouched b files p (PaysIn b p calls) c.loop-process.parts c.add_file.new.self) (sym file) touched)

pub returns : goal.returns
returns c =
    let files : List (List Call) = contents_of c.args.files.now in
    let size = length-contents_of c.args.files.now in
    let n = c.requires.processes in
    let m = c.processes-process-end.ensures in
    let end = c.loop-process.auto.process-end in
    let over = c.loop-process-test.false in
    parts-are c.args.book.now files c.loop-process.process c.loop-process.parts (omega arith) c.loop-process.invariant
