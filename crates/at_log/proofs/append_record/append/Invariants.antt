use Rattle.std.proofs.Common.{◌≡◌}
use Rattle.at_log.proofs.Prelude.{raised, record_words, IsStoring, published_by}
use Rattle.at_log.proofs.append_record.append.Given as goal

-- so many words are stored, a step for each
abbrev pub invariant-loop-j : goal.invariant-loop-j
invariant-loop-j l = record {
  board : l.seat.board ≡ l.fn.seat.board;
  storing : IsStoring l.fn.seat.knows l.seat.knows (record_words (published_by l.fn.seat.knows.first l.rec)) l.j;
  steps : l.seat.steps ≡ raised l.fn.seat.steps l.j;
  exchanges : l.seat.exchanges ≡ l.fn.seat.exchanges;
}
