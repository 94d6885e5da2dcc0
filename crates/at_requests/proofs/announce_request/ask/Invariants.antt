use Rattle.std.proofs.Common.{◌≡◌}
use Rattle.at_requests.proofs.Prelude.{raised, request_words, IsStoringRequest, asked_for}
use Rattle.at_requests.proofs.announce_request.ask.Given as goal

-- so many words are stored, a step for each
abbrev pub invariant-loop-j : goal.invariant-loop-j
invariant-loop-j l = record {
  board : l.seat.board ≡ l.fn.seat.board;
  storing : IsStoringRequest l.fn.seat.knows l.seat.knows l.account (request_words (asked_for l.targets l.since)) l.j;
  steps : l.seat.steps ≡ raised l.fn.seat.steps l.j;
  exchanges : l.seat.exchanges ≡ l.fn.seat.exchanges;
}
