use Rattle.at_files.proofs.Prelude.{accounts_from}
use Rattle.at_files.proofs.BookWalk.{Added}
use Rattle.at_files.proofs.book.read_accounts.Given as goal

abbrev pub invariant-loop-account : goal.invariant-loop-account
invariant-loop-account l = Added (accounts_from l.initial.begun l.initial.records) l.begun l.account l.records
