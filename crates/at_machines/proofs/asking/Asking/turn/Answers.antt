use Rattle.std.proofs.Common.{◌≡◌, ℕ, ◌+◌, ◌<◌, length, get_or, ap, subst, sym, ◌∙◌, arith}
use Rattle.at_machines.proofs.Prelude.{common_steps, BookTerms, HasSlot, Request, asking_on, own_part, SeatTerms, Announces, MayAnnounce, StoresRequestWord, request_words, Knowledge, REQUEST_WORDS, AskingTerms, asking_after, request_asked, IsAskingSo}
use Rattle.at_machines.proofs.AskingLaws.{Announces-IsAskingSo, HasAsked-IsAskingSo, HasLoadedNothing-IsAskingSo, HasSlot-IsAskingSo, IsAskingSo-announced, IsAskingSo-word, MayAnnounce-IsAskingSo, MayStoreRequest-IsAskingSo, announced-IsAskingSo}
use Rattle.at_machines.proofs.asking.Asking.turn.Goals.{After-announce, After-announced-number, After-self}
use Rattle.at_machines.proofs.asking.Asking.turn.Goals as goal

-- asking before the turn
before : (c : After-self) → IsAskingSo c.args.self.now
before c = subst IsAskingSo c.self.view_is c.self.invariant

-- its seat is the board's
book : (c : After-self) → c.args.self.now.mark.book ≡ c.args.board.now.book
book c = ap (λ (v : Knowledge). v.book) (sym c.requires.mark) ∙ c.requires.board.book

-- how the fields stand after the turn
pub invariant_of-self : goal.invariant_of-self
invariant_of-self c =
    let at = (goal.at.invariant_of-self c).After-self in
    let a : AskingTerms = c.args.self.now in
    let w : Knowledge = c.store_request_word.new.seat.knows in
    let n = c.request_word-word.result in
    let is = c.self.view_is in
    let left : a.stored < REQUEST_WORDS = omega (arith, c.if-self-lt-REQUEST_WORDS.true, ap (λ (t : AskingTerms). t.stored) is) in
    let word : n ≡ get_or (request_words (request_asked a)) a.stored 0 =
    c.request_word-word.ensures ∙ ap (λ (t : AskingTerms). get_or (request_words (request_asked t)) t.stored 0) is in
    let told : StoresRequestWord a.mark w a.account a.stored n =
    subst (λ (v : Knowledge). StoresRequestWord v w a.account a.stored n) c.requires.mark
    (subst (λ (t : AskingTerms). StoresRequestWord c.args.seat.now.knows w t.account t.stored n) is c.store_request_word.ensures.stored) in
    subst (λ (s : SeatTerms). IsAskingSo (record {
      start = c.self.inside.start.value.knows;
      mark = s.knows;
      account = c.self.inside.account;
      targets = c.self.inside.targets;
      since = c.self.inside.since;
      stored = c.self.inside.stored + 1;
    })) (sym c.of.ensures) (subst (λ (t : AskingTerms). IsAskingSo (asking_after t w)) (sym is) (IsAskingSo-word a w n left (before at) word told))

-- all words are stored
all : (c : After-announced-number) → c.args.self.now.stored ≡ REQUEST_WORDS
all c = omega (arith, c.if-self-lt-REQUEST_WORDS.false, ap (λ (t : AskingTerms). t.stored) c.self.view_is, c.requires.left)

-- the request may be announced
may : (c : After-announced-number) (slot : ℕ) → HasSlot c.args.board.now.book c.args.self.now.start.first c.args.self.now.account slot
    → MayAnnounce c.args.board.now.book c.args.seat.now.knows c.args.self.now.account slot (request_asked c.args.self.now)
may c slot slot_in =
    let at = (goal.at.After-announced-number c).After-self in
    let b : BookTerms = c.args.board.now.book in
    let a : AskingTerms = c.args.self.now in
    subst (λ (v : Knowledge). MayAnnounce b v a.account slot (request_asked a)) (sym c.requires.mark)
    (MayAnnounce-IsAskingSo b a slot (book at) (all c) (before at) slot_in)

-- the account is one that the process shares
mine : (c : After-self) → HasSlot c.args.board.now.book c.args.self.now.start.first c.args.self.now.account (before c).may.0
mine c = HasSlot-IsAskingSo c.args.board.now.book c.args.self.now (book c) (before c)

pub announce-requires-clause-request : goal.announce-requires-clause-request
announce-requires-clause-request c =
    let at = (goal.at.announce-requires-clause-request c).After-announced-number in
    let first = (goal.at.After-announced-number at).After-self in
    let slot = (before first).may.0 in (
      slot,
      request_asked c.args.self.now,
      subst (λ (t : AskingTerms). MayAnnounce c.args.board.now.book c.args.seat.now.knows t.account slot (request_asked c.args.self.now)) (sym c.self.view_is)
          (may at slot (mine first)),
    )

-- it is announced
told : (c : After-announce) (slot : ℕ) → HasSlot c.args.board.now.book c.args.self.now.start.first c.args.self.now.account slot
    → Announces c.args.board.now.book c.args.self.now.mark c.announce.new.seat.knows c.args.self.now.account slot (request_asked c.args.self.now)
told c slot slot_in =
    let at = (goal.at.After-announce c).After-announced-number in
    let b : BookTerms = c.args.board.now.book in
    let a : AskingTerms = c.args.self.now in
    let w : Knowledge = c.announce.new.seat.knows in
    let announced = subst (λ (t : AskingTerms). (s : ℕ) (r : Request) → MayAnnounce b c.args.seat.now.knows t.account s r
    → Announces b c.args.seat.now.knows w t.account s r) c.self.view_is c.announce.ensures.announced in
    subst (λ (v : Knowledge). Announces b v w a.account slot (request_asked a)) c.requires.mark (announced slot (request_asked a) (may at slot slot_in))

-- as if by one step
from_start : (c : After-announce) (slot : ℕ) → HasSlot c.args.board.now.book c.args.self.now.start.first c.args.self.now.account slot
    → Announces c.args.board.now.book c.args.self.now.start c.announce.new.seat.knows c.args.self.now.account slot (request_asked c.args.self.now)
from_start c slot slot_in =
    let at = (goal.at.After-announce c).After-announced-number in
    Announces-IsAskingSo c.args.board.now.book c.args.self.now c.announce.new.seat.knows slot (all at)
    (before (goal.at.After-announced-number at).After-self) (told c slot slot_in)

pub invariant_of-self-else-self-lt-REQUEST_WORDS : goal.invariant_of-self-else-self-lt-REQUEST_WORDS
invariant_of-self-else-self-lt-REQUEST_WORDS c =
    let done = (goal.at.invariant_of-self-else-self-lt-REQUEST_WORDS c).After-announce in
    let at = (goal.at.After-announce done).After-announced-number in
    let first = (goal.at.After-announced-number at).After-self in
    let a : AskingTerms = c.args.self.now in
    let w : Knowledge = c.announce.new.seat.knows in
    let slot = (before first).may.0 in
    let after = IsAskingSo-announced c.args.board.now.book a w slot (all at) (before first) (told done slot (mine first)) in
    subst (λ (s : SeatTerms). IsAskingSo (record {
      start = c.self.inside.start.value.knows;
      mark = s.knows;
      account = c.self.inside.account;
      targets = c.self.inside.targets;
      since = c.self.inside.since;
      stored = c.self.inside.stored + 1;
    })) (sym c.of-else-self-lt-REQUEST_WORDS.ensures) (subst (λ (t : AskingTerms). IsAskingSo (asking_after t w)) (sym c.self.view_is) after)

pub returns-else-self-lt-REQUEST_WORDS-clause-announced : goal.returns-else-self-lt-REQUEST_WORDS-clause-announced
returns-else-self-lt-REQUEST_WORDS-clause-announced c =
    from_start (goal.at.returns-else-self-lt-REQUEST_WORDS-clause-announced c).After-announce

-- by what was known before this turn
pub returns-else-self-lt-REQUEST_WORDS-clause-announces : goal.returns-else-self-lt-REQUEST_WORDS-clause-announces
returns-else-self-lt-REQUEST_WORDS-clause-announces c =
    let done = (goal.at.returns-else-self-lt-REQUEST_WORDS-clause-announces c).After-announce in
    let at = (goal.at.After-announce done).After-announced-number in
    let first = (goal.at.After-announced-number at).After-self in
    let slot = (before first).may.0 in (
      slot,
      (MayStoreRequest-IsAskingSo c.args.board.now.book c.args.self.now (book first) (omega (arith, all at)) (before first)).slot_in,
      told done slot (mine first),
    )

-- how many were announced before
counted : (c : After-announced-number)
    → c.announced-number.result ≡ length (asking_on (own_part c.args.self.now.start) c.args.self.now.account).announced
counted c =
    let at = (goal.at.After-announced-number c).After-self in
    let a : AskingTerms = c.args.self.now in
    let here : c.announced-number.result ≡ length (asking_on (own_part a.mark) a.account).announced =
    subst (λ (v : Knowledge). c.announced-number.result ≡ length (asking_on (own_part v) a.account).announced) c.requires.mark
    (subst (λ (t : AskingTerms). c.announced-number.result ≡ length (asking_on (own_part c.args.seat.now.knows) t.account).announced) c.self.view_is
    c.announced-number.ensures) in
    here ∙ announced-IsAskingSo a (omega (arith, all c)) (before at)

pub returns-else-self-lt-REQUEST_WORDS-clause-number : goal.returns-else-self-lt-REQUEST_WORDS-clause-number
returns-else-self-lt-REQUEST_WORDS-clause-number c =
    counted (goal.at.returns-else-self-lt-REQUEST_WORDS-clause-number c).After-announced-number

pub returns-else-self-lt-REQUEST_WORDS-clause-own : goal.returns-else-self-lt-REQUEST_WORDS-clause-own
returns-else-self-lt-REQUEST_WORDS-clause-own c slot slot_in =
    let done = (goal.at.returns-else-self-lt-REQUEST_WORDS-clause-own c).After-announce in
    let at = (goal.at.After-announce done).After-announced-number in
    HasAsked-IsAskingSo c.args.board.now.book c.args.self.now c.announce.new.seat.knows slot c.announced-number.result
    (before (goal.at.After-announced-number at).After-self) slot_in (counted at) (from_start done slot slot_in)

pub returns-else-self-lt-REQUEST_WORDS-clause-nothing : goal.returns-else-self-lt-REQUEST_WORDS-clause-nothing
returns-else-self-lt-REQUEST_WORDS-clause-nothing c =
    let done = (goal.at.returns-else-self-lt-REQUEST_WORDS-clause-nothing c).After-announce in
    let at = (goal.at.After-announced-number (goal.at.After-announce done).After-announced-number).After-self in
    let slot = (before at).may.0 in
    HasLoadedNothing-IsAskingSo c.args.board.now.book c.args.self.now c.announce.new.seat.knows slot (before at) (from_start done slot (mine at))

pub returns-else-self-lt-REQUEST_WORDS-clause-board : goal.returns-else-self-lt-REQUEST_WORDS-clause-board
returns-else-self-lt-REQUEST_WORDS-clause-board c =
    let done = (goal.at.returns-else-self-lt-REQUEST_WORDS-clause-board c).After-announce in
    let at = (goal.at.After-announced-number (goal.at.After-announce done).After-announced-number).After-self in
    record {
      id = c.announce.ensures.board ∙ c.requires.board.id;
      book = ap (λ (v : Knowledge). v.book) (told done (before at).may.0 (mine at)).same ∙ book at;
    }

pub returns-then-self-lt-REQUEST_WORDS-clause-word : goal.returns-then-self-lt-REQUEST_WORDS-clause-word
returns-then-self-lt-REQUEST_WORDS-clause-word c = λ left.
    let at = (goal.at.returns-then-self-lt-REQUEST_WORDS-clause-word c).After-self in
    let a : AskingTerms = c.args.self.now in
    let w : Knowledge = c.store_request_word.new.seat.knows in
    let n = c.request_word-word.result in
    let is = c.self.view_is in
    let word : n ≡ get_or (request_words (request_asked a)) a.stored 0 =
    c.request_word-word.ensures ∙ ap (λ (t : AskingTerms). get_or (request_words (request_asked t)) t.stored 0) is in
    let told : StoresRequestWord a.mark w a.account a.stored n =
    subst (λ (v : Knowledge). StoresRequestWord v w a.account a.stored n) c.requires.mark
    (subst (λ (t : AskingTerms). StoresRequestWord c.args.seat.now.knows w t.account t.stored n) is c.store_request_word.ensures.stored) in (
      (before at).may.0,
      (MayStoreRequest-IsAskingSo c.args.board.now.book a (book at) (omega (arith, left)) (before at)).slot_in,
      subst (StoresRequestWord a.mark w a.account a.stored) word told,
    )

pub returns-else-self-lt-REQUEST_WORDS-clause-after : goal.returns-else-self-lt-REQUEST_WORDS-clause-after
returns-else-self-lt-REQUEST_WORDS-clause-after c = grind (arith, common_steps)

pub returns-else-self-lt-REQUEST_WORDS-clause-word : goal.returns-else-self-lt-REQUEST_WORDS-clause-word
returns-else-self-lt-REQUEST_WORDS-clause-word c = grind (arith, common_steps)

pub overflow_add-self-else-self-lt-REQUEST_WORDS : goal.overflow_add-self-else-self-lt-REQUEST_WORDS
overflow_add-self-else-self-lt-REQUEST_WORDS c = grind (arith, common_steps)

pub returns-then-self-lt-REQUEST_WORDS-clause-after : goal.returns-then-self-lt-REQUEST_WORDS-clause-after
returns-then-self-lt-REQUEST_WORDS-clause-after c = grind (arith, common_steps)
