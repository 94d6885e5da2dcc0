use Rattle.std.proofs.Common.{◌≡◌, length, map, replicate, ap, ◌∙◌, arith}
use Rattle.at_fold.proofs.Prelude.{range_with_len, map-range_with_len_more, starting_sums}
use Rattle.at_fold.proofs.NothingCounted.{HasCounted-starting}
use Rattle.at_fold.proofs.totals.Totals.new.Goals as goal

pub loop-account-preserved : goal.loop-account-preserved
loop-account-preserved c =
    let more = map-range_with_len_more (starting_sums c.args.book.now) 0 c.loop-account.account c.loop-account.account (omega arith) in
    rw (more, ← c.loop-account.invariant, ← c.in_ok-new.ensures) c.in_ok-push.ensures.items

pub returns-clause-counted : goal.returns-clause-counted
returns-clause-counted c = λ seen.
    let all : c.loop-account.account ≡ length c.args.book.now.accounts = omega (arith, c.loop-account.auto.account-end, c.loop-account-test.false, c.accounts-count.ensures.count) in
    let all_sums = c.loop-account.invariant ∙ ap (λ n. map (starting_sums c.args.book.now) (range_with_len 0 n)) all in
    let upto = c.zeros.ensures ∙ ap (λ n. replicate n 0) c.processes.ensures in
    rw (upto, all_sums) (HasCounted-starting c.args.book.now seen c.accounts-count.ensures.checked)
