use Rattle.std.proofs.Common.{◌≡◌, ◌++◌, map, replicate}
use Rattle.at_agree.proofs.Prelude.{range_with_len, terms_of, own_account, unowned_account}
use Rattle.at_agree.proofs.book.draft_of.Given as goal

abbrev pub invariant-loop-process : goal.invariant-loop-process
invariant-loop-process l =
    map terms_of l.accounts.items ≡ map own_account (range_with_len 0 l.size) ++ replicate l._process unowned_account
