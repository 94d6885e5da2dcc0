use Rattle.std.proofs.Common.{◌≡◌, ℕ, ◌<◌, List, get_or}
use Rattle.at_object.proofs.Prelude.{balance_after, prefix_of, Publication, CountsCut, HasCounted}
use Rattle.at_object.proofs.reads.put_balances.Given as goal

-- the balances of the accounts before this one are put
abbrev pub invariant-loop-account : goal.invariant-loop-account
invariant-loop-account l = (seen : List Publication) → HasCounted l.totals l.book seen → CountsCut l.totals l.book seen
    → (a : ℕ) → a < l.account → get_or l.out a 0 ≡ balance_after l.book (prefix_of l.totals.upto seen) a
