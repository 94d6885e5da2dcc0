use Rattle.std.proofs.Common.{◌≡◌, length}
use Rattle.at_log.proofs.Prelude.{stepped}
use Rattle.at_log.proofs.Laws.SeenRecords.{IsLoaded}
use Rattle.at_log.proofs.load_view_words.load_view.Given as goal

-- so many counts are loaded, a step for each
abbrev pub invariant-loop-q : goal.invariant-loop-q
invariant-loop-q l = record {
  same : l.seat ≡ stepped l.fn.seat l.q;
  sized : length l.view ≡ l.board.book.processes;
  loaded : IsLoaded l.fn.seat.knows l.p l.i l.view l.q;
}
