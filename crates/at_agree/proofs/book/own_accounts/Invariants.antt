use Rattle.std.proofs.Common.{◌≡◌, map}
use Rattle.at_agree.proofs.Prelude.{range_with_len, terms_of, own_account}
use Rattle.at_agree.proofs.book.own_accounts.Given as goal

abbrev pub invariant-loop-process : goal.invariant-loop-process
invariant-loop-process l = map terms_of l.accounts.items ≡ map own_account (range_with_len 0 l.process)
