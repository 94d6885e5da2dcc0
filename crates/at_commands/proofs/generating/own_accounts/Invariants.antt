use Rattle.std.proofs.Common.{◌≡◌}
use Rattle.at_commands.proofs.Prelude.{book_of_own_accounts}
use Rattle.at_commands.proofs.generating.own_accounts.Given as goal

abbrev pub invariant-loop-process : goal.invariant-loop-process
invariant-loop-process l = l.builder ≡ book_of_own_accounts l.processes l.calls l.process
