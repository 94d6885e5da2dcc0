use Rattle.std.proofs.Common.{◌≡◌, subst, ◌∙◌, arith}
use Rattle.at_requests.proofs.Prelude.{length-set, IsBook, REQUEST_WORDS, IsLoading}
use Rattle.at_requests.proofs.Laws.Accounts.{HasAccount}
use Rattle.at_requests.proofs.Laws.Loading.{IsLoaded-more, KnowsOf-IsLoaded, LoadsRequest-IsLoading, account-KnowsOf, since-IsLoading}
use Rattle.at_requests.proofs.load_request_words.load_request.Goals.{After-known-2, After-loop-j}
use Rattle.at_requests.proofs.load_request_words.load_request.Goals as goal

book : (c : After-known-2) → IsBook c.args.board.now.book
book c = subst IsBook c.book.ensures c.known.ensures.checked

-- the seat has something on the account
has : (c : After-known-2) → HasAccount c.args.seat.now.knows c.args.account
has c =
    let seat = c.known-2.ensures.seat in
    record {
      part = omega (arith, seat.one_part);
      inside = omega (arith, seat.accounts, account-KnowsOf c.args.seat.now.knows c.args.account c.args.slot c.args.number seat.in_range c.requires.request);
    }

-- all words are loaded
whole : (c : After-loop-j)
    → IsLoading c.args.board.now.book c.args.seat.now.knows c.loop-j.seat.knows c.args.account c.args.slot c.args.number c.loop-j.words REQUEST_WORDS
whole c =
    let all : c.loop-j.j ≡ REQUEST_WORDS = omega (arith, c.loop-j-test.false, c.loop-j.auto.j-end) in
    subst (IsLoading c.args.board.now.book c.args.seat.now.knows c.loop-j.seat.knows c.args.account c.args.slot c.args.number c.loop-j.words) all
    (c.loop-j.invariant.loaded.loading (omega (arith, all)))

pub load_request_word-requires-clause-request : goal.load_request_word-requires-clause-request
load_request_word-requires-clause-request c = record {
  known = KnowsOf-IsLoaded c.args.board.now.book c.args.seat.now.knows c.loop-j.seat.knows c.args.account c.args.slot c.args.number c.loop-j.words c.loop-j.j
      c.loop-j.invariant.loaded c.requires.request;
  word = c.loop-j-test.true;
}

pub loop-j-preserved : goal.loop-j-preserved
loop-j-preserved c = record {
  board = c.load_request_word.ensures.board ∙ c.loop-j.invariant.board;
  sized = length-set c.loop-j.words c.loop-j.j c.load_request_word.result ∙ c.loop-j.invariant.sized;
  loaded = IsLoaded-more c.args.board.now.book c.args.seat.now.knows c.loop-j.seat.knows c.load_request_word.new.seat.knows c.args.account c.args.slot c.args.number
      c.loop-j.words c.loop-j.j c.load_request_word.result (has (goal.at.loop-j-preserved c).After-known-2)
      (omega (arith, c.loop-j-test.true, c.loop-j.invariant.sized)) c.loop-j.invariant.loaded c.load_request_word.ensures.told;
  steps = omega (arith, c.load_request_word.ensures.steps, c.loop-j.invariant.steps);
  exchanges = c.load_request_word.ensures.exchanges ∙ c.loop-j.invariant.exchanges;
}

pub request_from-requires : goal.request_from-requires
request_from-requires c = record {
  since = since-IsLoading c.args.board.now.book c.args.seat.now.knows c.loop-j.seat.knows c.args.account c.args.slot c.args.number c.loop-j.words
      (whole (goal.at.request_from-requires c).After-loop-j);
}

pub returns-clause-loaded : goal.returns-clause-loaded
returns-clause-loaded c =
    let before : After-known-2 = (goal.at.returns-clause-loaded c).After-known-2 in
    LoadsRequest-IsLoading c.args.board.now.book c.args.seat.now.knows c.loop-j.seat.knows c.args.account c.args.slot c.args.number c.loop-j.words
    c.request_from.result (book before) (has before) c.loop-j.invariant.sized (whole (goal.at.returns-clause-loaded c).After-loop-j)
    c.request_from.ensures.request
