use Rattle.std.proofs.Common.{length, ap, arith}
use Rattle.at_logs.proofs.Prelude.{NodeTerms}
use Rattle.at_logs.proofs.ReadingLaws.{accounts-logs_of}
use Rattle.at_logs.proofs.node.Node.balance.Goals as goal

pub balance-requires : goal.balance-requires
balance-requires c =
    omega (arith, c.requires, accounts-logs_of c.self.inside.core.book c.self.inside.book c.self.invariant.book, ap (λ (n : NodeTerms). length n.book.accounts) c.self.view_is)
