use Rattle.std.proofs.Common.{◌≡◌, ◌++◌, ◌<◌, ◌∙◌, [], ℕ, All, List, get_or, sym, arith, length}
use Rattle.std.specs.Prelude.{slice_index_or}
use Rattle.at_tables.proofs.Prelude.{IsPlayable, contents_of, get_or-contents_of, length-contents_of, IsCallOn, Call, Replies, Words, records_text, records_text-flat_map_more, process_replies}
use Rattle.at_tables.proofs.orders_table.push_processes.Goals as goal

known-at : (accounts p : ℕ) (files : List (List Call)) (calls : List Call) → p < length files → calls ≡ get_or files p [] → All (IsPlayable accounts) files
    → All (IsCallOn accounts) calls
known-at accounts p files calls within is playable = rw is (playable p [] within).known

pub push_process-requires-clause-known : goal.push_process-requires-clause-known
push_process-requires-clause-known c =
    let below : c.loop-p.p < length c.args.files.now = omega (arith, c.loop-p-test.true, c.loop-p.auto.p-end, c.processes-p-end.ensures, c.requires.processes) in
    known-at (length c.args.book.now.accounts) c.loop-p.p (contents_of c.args.files.now) c.as_slice-calls.result.now
    (omega (arith, below, length-contents_of c.args.files.now))
    (c.as_slice-calls.ensures.value ∙ sym (get_or-contents_of c.args.files.now c.loop-p.p c.index-files-p.result below c.index-files-p.is)) c.requires.files

pub push_process-requires-clause-count : goal.push_process-requires-clause-count
push_process-requires-clause-count c =
    let p : ℕ = c.loop-p.p in
    let below : p < length c.args.files.now = omega (arith, c.loop-p-test.true, c.loop-p.auto.p-end, c.processes-p-end.ensures, c.requires.processes) in
    let within : p < length c.args.answers.now =
    omega (arith, below, length-contents_of c.args.answers.now, length-contents_of c.args.files.now, c.requires.answers.processes) in
    let calls : c.as_slice-calls.result.now ≡ slice_index_or (contents_of c.args.files.now) p [] =
    c.as_slice-calls.ensures.value ∙ sym (get_or-contents_of c.args.files.now p c.index-files-p.result below c.index-files-p.is) in
    let replies : c.as_slice-replies.result.now ≡ slice_index_or (contents_of c.args.answers.now) p [] =
    c.as_slice-replies.ensures.value ∙ sym (get_or-contents_of c.args.answers.now p c.index-answers-p.result within c.index-answers-p.is) in
    rw (calls, replies) (c.requires.answers.calls p (omega (arith, below, length-contents_of c.args.files.now)))

pub loop-p-preserved : goal.loop-p-preserved
loop-p-preserved c =
    let p : ℕ = c.loop-p.p in
    let files : List (List Call) = contents_of c.args.files.now in
    let answers : List (List Replies) = contents_of c.args.answers.now in
    let records : ℕ → List Words = λ p. process_replies c.args.book.now c.args.names.now p (slice_index_or files p []) (slice_index_or answers p []) in
    let below : p < length c.args.files.now = omega (arith, c.loop-p-test.true, c.loop-p.auto.p-end, c.processes-p-end.ensures, c.requires.processes) in
    let within : p < length c.args.answers.now =
    omega (arith, below, length-contents_of c.args.answers.now, length-contents_of c.args.files.now, c.requires.answers.processes) in
    let calls : c.as_slice-calls.result.now ≡ slice_index_or files p [] =
    c.as_slice-calls.ensures.value ∙ sym (get_or-contents_of c.args.files.now p c.index-files-p.result below c.index-files-p.is) in
    let replies : c.as_slice-replies.result.now ≡ slice_index_or answers p [] =
    c.as_slice-replies.ensures.value ∙ sym (get_or-contents_of c.args.answers.now p c.index-answers-p.result within c.index-answers-p.is) in
    let lines : c.push_process.new.out.items ≡ c.loop-p.out.items ++ records_text (records p) =
    rw (← calls, ← replies) c.in_ok-push_process.ensures in
    lines ∙ rw c.loop-p.invariant (records_text-flat_map_more records c.args.out.now.items p)
