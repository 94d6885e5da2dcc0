use Rattle.std.proofs.Common.{subst, ◌∙◌}
use Rattle.at_logs.proofs.Prelude.{AgreesWithAll-IsNode, IsBook, IsClosed-IsNode, IsFinal-IsNode, IsSolvent-IsNode, KeepsUp-IsNode, NodeTerms, ReadingState, SharesBalances-IsNode, SharesPrefixes-IsNode, ShowsBalances-IsNode, read_state}
use Rattle.at_logs.proofs.AgreementLaws.{AgreesOnLogs-IsReading, FollowsOnLogs-IsReading, ReadsGrown-HasReadLogs, SharesBalancesOnLogs-IsReading, SharesPrefixesOnLogs-IsReading}
use Rattle.at_logs.proofs.TellingLaws.{TellsLegally-IsReading}
use Rattle.at_logs.proofs.TotalLaws.{total-logs_of}
use Rattle.at_logs.proofs.node.Node.known.Goals as goal

pub returns : goal.returns
returns c = λ messages history.
    let s : ReadingState = read_state c.args.self.now messages in
    let is = history.reading in
    let book : IsBook s.book = subst (λ (n : NodeTerms). IsBook n.book) c.self.view_is c.known.ensures.checked in
    record {
      closed = IsClosed-IsNode s.node is.node;
      balances = ShowsBalances-IsNode s.node is.node;
      solvent = IsSolvent-IsNode s.node is.node;
      total = is.node.steady.total;
      book_total = is.node.steady.total ∙ total-logs_of s.node.book s.book is.book;
      told = TellsLegally-IsReading s is;
      agree = AgreesWithAll-IsNode s.node is.node;
      keeps_up = KeepsUp-IsNode s.node is.node;
      is_final = IsFinal-IsNode s.node is.node;
      prefixes = SharesPrefixes-IsNode s.node is.node;
      shared = SharesBalances-IsNode s.node is.node;
      grown = ReadsGrown-HasReadLogs s;
      agree_on_logs = AgreesOnLogs-IsReading s book;
      follows_on_logs = FollowsOnLogs-IsReading s book;
      prefixes_on_logs = SharesPrefixesOnLogs-IsReading s book;
      balances_on_logs = SharesBalancesOnLogs-IsReading s book;
    }
