use Rattle.std.proofs.Common.{ℕ, length, refl, sym, ap, subst, ◌∙◌, arith}
use Rattle.at_requests.proofs.Prelude.{BookTerms, HasSlot, IsBook, Request, Announces, MayAnnounce, request_words, Knowledge, asked_for}
use Rattle.at_requests.proofs.Laws.Accounts.{HasAccount}
use Rattle.at_requests.proofs.Laws.Asking.{Announces-IsStoringRequest, HasAsked-Announces, HasLoadedNothing-Announces, IsOf-Announces, IsStoringRequest-more, IsStoringRequest-start, MayAnnounce-IsStoringRequest, MayStoreRequest-IsStoringRequest, MayAskFor-slot}
use Rattle.at_requests.proofs.Laws.Loading.{AreTargetsOn-AreTargets}
use Rattle.at_requests.proofs.announce_request.ask.Goals.{After-announce, After-announced-number, After-known-2, After-loop-j}
use Rattle.at_requests.proofs.announce_request.ask.Goals as goal

-- the seat has something on the account
has : (c : After-known-2) → HasAccount c.args.seat.now.knows c.args.account
has c =
    let seat = c.known-2.ensures.seat in
    let inside = c.requires.request.1.asks.slot_in.account_in in
    let same = ap (λ (t : BookTerms). length t.accounts) c.requires.board.book in
    record { part = omega (arith, seat.one_part); inside = omega (arith, seat.accounts, inside, same) }

-- the request may be announced once its words are stored
may : (c : After-loop-j)
    → MayAnnounce c.args.board.now.book c.loop-j.seat.knows c.args.account c.requires.request.0 (asked_for c.args.targets.now c.args.since)
may c =
    MayAnnounce-IsStoringRequest c.args.board.now.book c.args.seat.now.knows c.loop-j.seat.knows c.args.account c.requires.request.0 (asked_for c.args.targets.now c.args.since) c.loop-j.j
    (has (goal.at.After-loop-j c).After-known-2) c.requires.request.1 c.loop-j.invariant.storing (omega (arith, c.loop-j-test.false, c.loop-j.auto.j-end))

-- it is announced
told : (c : After-announce) (slot : ℕ) → HasSlot c.args.board.now.book c.args.seat.now.knows.first c.args.account slot
    → Announces c.args.board.now.book c.args.seat.now.knows c.announce.new.seat.knows c.args.account slot (asked_for c.args.targets.now c.args.since)
told c slot slot_in =
    let before : After-loop-j = (goal.at.After-announce c).After-loop-j in
    let b : BookTerms = c.args.board.now.book in
    let r : Request = asked_for c.args.targets.now c.args.since in
    let asks = MayAskFor-slot b c.args.seat.now.knows c.args.account c.requires.request.0 slot r c.requires.request.1 slot_in in
    let all = MayAnnounce-IsStoringRequest b c.args.seat.now.knows c.loop-j.seat.knows c.args.account slot r c.loop-j.j (has (goal.at.After-loop-j before).After-known-2) asks
    c.loop-j.invariant.storing (omega (arith, c.loop-j-test.false, c.loop-j.auto.j-end)) in
    Announces-IsStoringRequest b c.args.seat.now.knows c.loop-j.seat.knows c.announce.new.seat.knows c.args.account slot r (request_words r) c.loop-j.j
    (has (goal.at.After-loop-j before).After-known-2) c.loop-j.invariant.storing (c.announce.ensures.announced slot r all)

mine : (c : After-announce)
    → Announces c.args.board.now.book c.args.seat.now.knows c.announce.new.seat.knows c.args.account c.requires.request.0 (asked_for c.args.targets.now c.args.since)
mine c = told c c.requires.request.0 c.requires.request.1.asks.slot_in

pub loop-j-init : goal.loop-j-init
loop-j-init c =
    let v : Knowledge = c.args.seat.now.knows in
    let slot_in : HasSlot v.book v.first c.args.account c.requires.request.0 =
    subst (λ (t : BookTerms). HasSlot t v.first c.args.account c.requires.request.0) (sym c.requires.board.book) c.requires.request.1.asks.slot_in in
    record {
      board = refl;
      storing = IsStoringRequest-start v c.args.account (request_words (asked_for c.args.targets.now c.args.since))
          (c.known-2.ensures.seat.next_words c.args.account c.requires.request.0 slot_in);
      steps = omega arith;
      exchanges = refl;
    }

pub request_word-word-requires-clause-targets : goal.request_word-word-requires-clause-targets
request_word-word-requires-clause-targets c =
    AreTargetsOn-AreTargets c.args.board.now.book c.args.targets.now (subst IsBook c.book.ensures c.known.ensures.checked) c.requires.request.1.targets

pub store_request_word-requires-clause-asks : goal.store_request_word-requires-clause-asks
store_request_word-requires-clause-asks c = (
  c.requires.request.0,
  MayStoreRequest-IsStoringRequest c.args.board.now.book c.args.seat.now.knows c.loop-j.seat.knows c.args.account c.requires.request.0
      (request_words (asked_for c.args.targets.now c.args.since)) c.loop-j.j
      (has (goal.at.store_request_word-requires-clause-asks c).After-known-2) c.loop-j.invariant.storing c.requires.request.1.asks,
)

pub loop-j-preserved : goal.loop-j-preserved
loop-j-preserved c = record {
  board = c.store_request_word.ensures.board ∙ c.loop-j.invariant.board;
  storing = IsStoringRequest-more c.args.seat.now.knows c.loop-j.seat.knows c.store_request_word.new.seat.knows c.args.account
      (request_words (asked_for c.args.targets.now c.args.since)) c.loop-j.j c.request_word-word.result
      (has (goal.at.loop-j-preserved c).After-known-2) c.loop-j-test.true c.loop-j.invariant.storing c.request_word-word.ensures c.store_request_word.ensures.stored;
  steps = omega (arith, c.store_request_word.ensures.steps, c.loop-j.invariant.steps);
  exchanges = c.store_request_word.ensures.exchanges ∙ c.loop-j.invariant.exchanges;
}

pub announce-requires-clause-request : goal.announce-requires-clause-request
announce-requires-clause-request c =
    (c.requires.request.0, asked_for c.args.targets.now c.args.since, may (goal.at.announce-requires-clause-request c).After-loop-j)

pub returns-clause-announced : goal.returns-clause-announced
returns-clause-announced c = told (goal.at.returns-clause-announced c).After-announce

pub returns-clause-own : goal.returns-clause-own
returns-clause-own c slot slot_in =
    let after : After-announce = (goal.at.returns-clause-own c).After-announce in
    let before : After-loop-j = (goal.at.After-announce after).After-loop-j in
    HasAsked-Announces c.args.board.now.book c.args.seat.now.knows c.announce.new.seat.knows c.args.account slot c.announced-number.result c.args.targets.now c.args.since
    (has (goal.at.After-loop-j before).After-known-2) slot_in c.announced-number.ensures (told after slot slot_in)

pub returns-clause-nothing : goal.returns-clause-nothing
returns-clause-nothing c =
    let after : After-announce = (goal.at.returns-clause-nothing c).After-announce in
    let before : After-loop-j = (goal.at.After-announce after).After-loop-j in
    HasLoadedNothing-Announces c.args.board.now.book c.args.seat.now.knows c.announce.new.seat.knows c.args.account c.requires.request.0
    (asked_for c.args.targets.now c.args.since) (has (goal.at.After-loop-j before).After-known-2) (mine after)

pub returns-clause-board : goal.returns-clause-board
returns-clause-board c =
    let after : After-announce = (goal.at.returns-clause-board c).After-announce in
    IsOf-Announces c.args.board.now c.args.seat.now c.announce.new.seat c.args.account c.requires.request.0 (asked_for c.args.targets.now c.args.since)
    (c.announce.ensures.board ∙ c.loop-j.invariant.board) c.requires.board (mine after)
