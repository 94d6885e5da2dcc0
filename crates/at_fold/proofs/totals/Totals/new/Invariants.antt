use Rattle.std.proofs.Common.{◌≡◌, map}
use Rattle.at_fold.proofs.Prelude.{range_with_len, starting_sums}
use Rattle.at_fold.proofs.totals.Totals.new.Given as goal

abbrev pub invariant-loop-account : goal.invariant-loop-account
invariant-loop-account l = l.accounts.items ≡ map (starting_sums l.book) (range_with_len 0 l.account)
