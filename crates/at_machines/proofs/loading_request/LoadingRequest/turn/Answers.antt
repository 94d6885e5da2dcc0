use Rattle.std.proofs.Common.{◌≡◌, ◌+◌, length, set, ap, subst, sym, ◌∙◌, arith}
use Rattle.at_machines.proofs.Prelude.{common_steps, length-set, Request, SeatTerms, LoadsRequestWord, request_words, ArePacked, accounts_of, Knowledge, REQUEST_WORDS, opened, IsLoadingRequestSo, LoadingRequestTerms, request_after}
use Rattle.at_machines.proofs.LoadingRequestLaws.{IsLoadingRequestSo-turn, LoadsRequest-IsLoadingRequestSo}
use Rattle.at_machines.proofs.loading_request.LoadingRequest.turn.Goals.{After-of}
use Rattle.at_machines.proofs.loading_request.LoadingRequest.turn.Goals as goal

-- the seat was the board's before the load
book : (c : After-of) → c.args.self.now.mark.book ≡ c.args.board.now.book
book c = ap (λ (v : Knowledge). v.book) (sym c.requires.mark) ∙ c.requires.board.book

-- the load after the step
kept : (c : After-of)
    → IsLoadingRequestSo (request_after c.args.self.now c.load_request_word.new.seat.knows) (set c.self.inside.words c.args.self.now.loaded c.load_request_word.result)
kept c =
    let l : LoadingRequestTerms = c.args.self.now in
    let b = c.args.board.now.book in
    let w : Knowledge = c.load_request_word.new.seat.knows in
    let n = c.load_request_word.result in
    let is = c.self.view_is in
    let so = subst (λ (t : LoadingRequestTerms). IsLoadingRequestSo t c.self.inside.words) is c.self.invariant.1 in
    let told : LoadsRequestWord b l.mark w l.account l.slot l.number l.loaded n =
    subst (λ (v : Knowledge). LoadsRequestWord b v w l.account l.slot l.number l.loaded n) c.requires.mark
    (subst (λ (t : LoadingRequestTerms). LoadsRequestWord b c.args.seat.now.knows w t.account t.slot t.number t.loaded n) is c.load_request_word.ensures.told) in
    IsLoadingRequestSo-turn b l c.self.inside.words w n (book c) c.requires.left c.self.invariant.0 so told

after_book : (c : After-of) → c.load_request_word.new.seat.knows.book ≡ c.args.board.now.book
after_book c = ap (λ (v : Knowledge). v.book) c.load_request_word.ensures.told.same ∙ c.requires.board.book

sized : (c : After-of) → length (set c.self.inside.words c.self.inside.loaded c.load_request_word.result) ≡ REQUEST_WORDS
sized c = length-set c.self.inside.words c.self.inside.loaded c.load_request_word.result ∙ c.self.invariant.0

-- it is what the fields say
closes : (c : After-of)
    → (length (set c.self.inside.words c.self.inside.loaded c.load_request_word.result) ≡ REQUEST_WORDS)
    × IsLoadingRequestSo (record {
      start = c.self.inside.start.value.knows;
      mark = c.of.result.value.knows;
      account = c.self.inside.account;
      slot = c.self.inside.slot;
      number = c.self.inside.number;
      loaded = c.self.inside.loaded + 1;
    }) (set c.self.inside.words c.self.inside.loaded c.load_request_word.result)
closes c =
    let w : Knowledge = c.load_request_word.new.seat.knows in
    let words : LoadingRequestTerms → _ = λ t. set c.self.inside.words t.loaded c.load_request_word.result in (
      sized c,
      subst (λ (s : SeatTerms). IsLoadingRequestSo (record {
        start = c.self.inside.start.value.knows;
        mark = s.knows;
        account = c.self.inside.account;
        slot = c.self.inside.slot;
        number = c.self.inside.number;
        loaded = c.self.inside.loaded + 1;
      }) (set c.self.inside.words c.self.inside.loaded c.load_request_word.result)) (sym c.of.ensures)
          (subst (λ (t : LoadingRequestTerms). IsLoadingRequestSo (request_after t w) (words t)) (sym c.self.view_is) (kept c)),
    )

pub invariant_of-self : goal.invariant_of-self
invariant_of-self c = closes (goal.at.invariant_of-self c).After-of

pub invariant_of-self-2 : goal.invariant_of-self-2
invariant_of-self-2 c = closes (goal.at.invariant_of-self-2 c).After-of

pub returns-clause-request : goal.returns-clause-request
returns-clause-request c =
    let at = (goal.at.returns-clause-request c).After-of in
    let b = c.args.board.now.book in
    let l : LoadingRequestTerms = c.args.self.now in
    let w : Knowledge = c.load_request_word.new.seat.knows in
    let is = c.self.view_is in
    let all : l.loaded + 1 ≡ REQUEST_WORDS = omega (arith, ap (λ (t : LoadingRequestTerms). t.loaded) is, c.if-self-lt-REQUEST_WORDS.false, c.requires.left) in
    let x = c.request_from.result in
    let told = subst (λ (t : LoadingRequestTerms). (r : Request) → ArePacked (accounts_of r.targets)
    → set c.self.inside.words t.loaded c.load_request_word.result ≡ request_words r → x ≡ opened t.slot t.number r.targets r.since) is c.request_from.ensures.request in
    LoadsRequest-IsLoadingRequestSo b (request_after l w) (set c.self.inside.words l.loaded c.load_request_word.result) x
    (after_book at) (omega (arith, length-set c.self.inside.words l.loaded c.load_request_word.result, c.self.invariant.0)) all (kept at) told

pub returns-clause-after : goal.returns-clause-after
returns-clause-after c = grind (arith, common_steps)

pub returns-then-self-lt-REQUEST_WORDS-clause-after : goal.returns-then-self-lt-REQUEST_WORDS-clause-after
returns-then-self-lt-REQUEST_WORDS-clause-after c = grind (arith, common_steps)

pub request_from-requires : goal.request_from-requires
request_from-requires c = grind (arith, common_steps)

pub bounds-self-inside-j : goal.bounds-self-inside-j
bounds-self-inside-j c = grind (arith, common_steps)

pub returns-clause-load : goal.returns-clause-load
returns-clause-load c = grind (arith, common_steps)

pub returns-then-self-lt-REQUEST_WORDS-clause-load : goal.returns-then-self-lt-REQUEST_WORDS-clause-load
returns-then-self-lt-REQUEST_WORDS-clause-load c = grind (arith, common_steps)
