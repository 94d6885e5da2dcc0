use Rattle.std.proofs.Common.{refl, ◌≡◌, sym, ap, subst, ◌∙◌, arith}
use Rattle.at_board.proofs.Prelude.{common_steps, BookTerms, IsKept, Knowledge, IsAddress, index_of, request_word, word_count, MayLoadRequest, LoadsRequestWord}
use Rattle.at_board.proofs.KnowledgeLaws.Books.{to_caller}
use Rattle.at_board.proofs.KnowledgeLaws.Kept.{IsKept-IsSeat, IsSeat-step}
use Rattle.at_board.proofs.WordLaws.Addresses.{index_of-below}
use Rattle.at_board.proofs.StepLaws.LoadRequestWord.{place-MayLoadRequest}
use Rattle.at_board.proofs.StepLaws.LoadRequestWord.{HasCounts-request, loads_request_word_at}
use Rattle.at_board.proofs.board.Board.load_request_word.Goals.{After-self, After-load, After-request_index-index}
use Rattle.at_board.proofs.board.Board.load_request_word.Goals as goal

-- the seat is the one that callers see, and the board has the book that the seat knows
mine : (c : After-self) → c.seat.inside.seat.me.0 ≡ c.args.seat.now.knows
mine c = ap (λ s. s.knows) c.seat.view_is

ours : (c : After-self) → c.self.inside.layout.book ≡ c.seat.inside.seat.me.0.book
ours c = ap (λ t. t.book) c.self.view_is ∙ sym (ap (λ (t : Knowledge). t.book) (mine c) ∙ c.requires.board.book)

kept : (c : After-self) → IsKept c.seat.inside.seat.me.0
kept c = IsKept-IsSeat c.seat.inside.seat.me.0 c.seat.inside.process c.seat.inside.published c.seat.invariant.1

may : (c : After-self) → MayLoadRequest c.seat.inside.seat.me.0 c.args.account c.args.slot c.args.number c.args.j
may c = subst (λ t. MayLoadRequest t c.args.account c.args.slot c.args.number c.args.j) (sym (mine c)) c.requires.request

-- the board has the word
place : (c : After-self) → IsAddress c.seat.inside.seat.me.0.book (request_word c.args.account c.args.slot c.args.number c.args.j)
place c = place-MayLoadRequest c.seat.inside.seat.me.0 c.args.account c.args.slot c.args.number c.args.j (kept c).in_range (may c)

pub request_index-index-requires-clause-place : goal.request_index-index-requires-clause-place
request_index-index-requires-clause-place c = subst (λ t. IsAddress t (request_word c.args.account c.args.slot c.args.number c.args.j)) (sym (ours c)) (place c)

at : (c : After-request_index-index) → c.request_index-index.result
    ≡ index_of c.seat.inside.seat.me.0.book (request_word c.args.account c.args.slot c.args.number c.args.j)
at c =
    let known : After-self = (goal.at.After-request_index-index c).After-self in
    let x = request_word c.args.account c.args.slot c.args.number c.args.j in
    c.request_index-index.ensures.index ∙ ap (λ t. index_of t x) (ours known)

-- the step loads the word
told : (c : After-load) → let v : Knowledge = c.seat.inside.seat.me.0 in
    LoadsRequestWord v.book v c.load.new.seat.me.0 c.args.account c.args.slot c.args.number c.args.j c.load.result
told c =
    let indexed : After-request_index-index = (goal.at.After-load c).After-request_index-index in
    let known : After-self = (goal.at.After-request_index-index indexed).After-self in
    c.load.ensures.2.2 c.args.account c.args.slot c.args.number c.args.j (place known) (may known) (at indexed)

pub load-requires : goal.load-requires
load-requires c =
    let indexed : After-request_index-index = (goal.at.load-requires c).After-request_index-index in
    let known : After-self = (goal.at.After-request_index-index indexed).After-self in
    let b : BookTerms = c.seat.inside.seat.me.0.book in
    let x = request_word c.args.account c.args.slot c.args.number c.args.j in (
      ap (λ s. s.board) c.seat.view_is ∙ (c.requires.board.id ∙ sym (ap (λ t. t.id) c.self.view_is)),
      omega (arith, c.self.invariant.1, ap word_count (ours known), at indexed, index_of-below b x (place known)),
      loads_request_word_at c.self.inside.table.shared.key.value c.self.inside.table.shared.table_id.slots c.seat.inside.seat.id c.seat.inside.seat.me
          c.args.account c.args.slot c.args.number c.args.j c.request_index-index.result (c.self.invariant.0 ∙ ours known) (at indexed) (kept known) (place known) (may known),
    )

pub invariant_of-seat : goal.invariant_of-seat
invariant_of-seat c =
    let v : Knowledge = c.seat.inside.seat.me.0 in
    let w : Knowledge = c.load.new.seat.me.0 in
    let loaded = told (goal.at.invariant_of-seat c).After-load in (
      c.load.ensures.2.0 ∙ c.seat.invariant.0,
      IsSeat-step v _ w _ c.seat.inside.process c.seat.inside.published c.seat.inside.published c.seat.invariant.1 refl refl loaded.same
          c.seat.invariant.1.published_is c.load.ensures.2.1,
      HasCounts-request v.book v w c.args.account c.args.slot c.args.number c.args.j c.load.result c.seat.inside.announced.items (omega (arith, c.seat.invariant.1.one_part))
          c.seat.invariant.1.accounts loaded c.seat.invariant.2,
    )

pub returns-clause-told : goal.returns-clause-told
returns-clause-told c =
    to_caller (λ b v. LoadsRequestWord b v c.load.new.seat.me.0 c.args.account c.args.slot c.args.number c.args.j c.load.result) c.args.self.now.book
    c.args.seat.now.knows c.seat.inside.seat.me.0 c.requires.board.book (ap (λ s. s.knows) c.seat.view_is) (told (goal.at.returns-clause-told c).After-load)

pub returns-clause-seat : goal.returns-clause-seat
returns-clause-seat c = c.load.ensures.2.1

pub returns-clause-steps : goal.returns-clause-steps
returns-clause-steps c = grind (arith, common_steps)

pub returns-clause-exchanges : goal.returns-clause-exchanges
returns-clause-exchanges c = grind (arith, common_steps)

pub returns-clause-board : goal.returns-clause-board
returns-clause-board c = grind (arith, common_steps)
