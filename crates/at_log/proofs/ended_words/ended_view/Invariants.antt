use Rattle.std.proofs.Common.{◌≡◌, length}
use Rattle.at_log.proofs.Laws.EndedRecords.{IsCounted}
use Rattle.at_log.proofs.ended_words.ended_view.Given as goal

-- so many counts are read
abbrev pub invariant-loop-q : goal.invariant-loop-q
invariant-loop-q l = record {
  sized : length l.view ≡ l.end.book.processes;
  counted : IsCounted l.end l.p l.i l.view l.q;
}
