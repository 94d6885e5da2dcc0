use Rattle.std.proofs.Common.{◌≡◌, length}
use Rattle.at_requests.proofs.Prelude.{raised, REQUEST_WORDS, IsLoaded}
use Rattle.at_requests.proofs.load_request_words.load_request.Given as goal

-- so many words are loaded, a step for each
abbrev pub invariant-loop-j : goal.invariant-loop-j
invariant-loop-j l = record {
  board : l.seat.board ≡ l.fn.seat.board;
  sized : length l.words ≡ REQUEST_WORDS;
  loaded : IsLoaded l.board.book l.fn.seat.knows l.seat.knows l.account l.slot l.number l.words l.j;
  steps : l.seat.steps ≡ raised l.fn.seat.steps l.j;
  exchanges : l.seat.exchanges ≡ l.fn.seat.exchanges;
}
