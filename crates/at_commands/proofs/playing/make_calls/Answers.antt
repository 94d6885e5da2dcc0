use Rattle.std.proofs.Common.{◌≡◌, ◌∙◌, ℕ, List, ◌++◌, drop, length, subst, take}
use Rattle.at_commands.proofs.Prelude.{take-append_seam, contents_of, JobTerms}
use Rattle.at_commands.proofs.JobsRun.{AreAccountedFor-ran, IfOk-accounted, IfOk-costed, IfOk-receipts, files_of-ran}
use Rattle.at_commands.proofs.JobsNoting.{HaveCosted-ran}
use Rattle.at_commands.proofs.playing.make_calls.Goals as goal

-- a list that was changed as a slice, in each of its places
written : (n : ℕ) (before after : List JobTerms) → length after ≡ n → take n (after ++ drop (length after) before) ≡ after
written n before after same =
    subst (λ k. take k (after ++ drop (length after) before) ≡ after) same (take-append_seam after (drop (length after) before))

pub returns-clause-accounted : goal.returns-clause-accounted
returns-clause-accounted g c =
    let ledger = c.args.ledger.now in
    let ran = rw c.as_mut_slice.ensures.value at c.run_all.ensures in
    let all = written c.in_ok-jobs.jobs.len c.in_ok-jobs.jobs.items c.run_all.new.jobs (c.run_all.auto.jobs ∙ c.as_mut_slice.ensures.len) in
    IfOk-accounted ledger c.run_all.new.jobs c.taken_apart.result
    (AreAccountedFor-ran ledger (contents_of c.args.files.items) c.args.notes c.in_ok-jobs.jobs.items c.run_all.new.jobs c.in_ok-jobs.ensures ran)
    (rw all at c.taken_apart.ensures.passes) (rw all at c.taken_apart.ensures.receipts)

pub returns-clause-calls : goal.returns-clause-calls
returns-clause-calls g c =
    let ran = rw c.as_mut_slice.ensures.value at c.run_all.ensures in
    let all = written c.in_ok-jobs.jobs.len c.in_ok-jobs.jobs.items c.run_all.new.jobs (c.run_all.auto.jobs ∙ c.as_mut_slice.ensures.len) in
    IfOk-receipts c.run_all.new.jobs (contents_of c.args.files.items) c.taken_apart.result
    (files_of-ran c.args.ledger.now c.in_ok-jobs.jobs.items c.run_all.new.jobs ran ∙ c.in_ok-jobs.ensures.calls)
    (rw all at c.taken_apart.ensures.receipts)

pub returns-clause-costs : goal.returns-clause-costs
returns-clause-costs g c =
    let ledger = c.args.ledger.now in
    let ran = rw c.as_mut_slice.ensures.value at c.run_all.ensures in
    let all = written c.in_ok-jobs.jobs.len c.in_ok-jobs.jobs.items c.run_all.new.jobs (c.run_all.auto.jobs ∙ c.as_mut_slice.ensures.len) in
    IfOk-costed ledger c.args.notes c.run_all.new.jobs c.taken_apart.result
    (HaveCosted-ran ledger (contents_of c.args.files.items) c.args.notes c.in_ok-jobs.jobs.items c.run_all.new.jobs c.in_ok-jobs.ensures ran)
    (rw all at c.taken_apart.ensures.passes) (rw all at c.taken_apart.ensures.receipts) (rw all at c.taken_apart.ensures.costs)
