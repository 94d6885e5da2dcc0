use Rattle.std.proofs.Common.{refl, ◌≡◌, sym, ap, subst, ◌∙◌, arith}
use Rattle.at_board.proofs.Prelude.{common_steps, word_of, Decision, IsKept, Request, Knowledge, MayPropose, Decides, word_after, IsAddress, cell_of, index_of, word_count}
use Rattle.at_board.proofs.KnowledgeLaws.Books.{to_caller, to_seat}
use Rattle.at_board.proofs.KnowledgeLaws.Kept.{IsKept-IsSeat, IsSeat-step}
use Rattle.at_board.proofs.StepLaws.Decide.{HasCounts-decided, decides_at}
use Rattle.at_board.proofs.WordLaws.Addresses.{index_of-below}
use Rattle.at_board.proofs.StepLaws.Decide.{IsAddress-MayPropose}
use Rattle.at_board.proofs.board.Board.decide.Goals.{After-cell_index-index, After-compare_exchange-found, After-self}
use Rattle.at_board.proofs.board.Board.decide.Goals as goal

-- the seat is the one that callers see, and the board has the book that the seat knows
mine : (c : After-self) → c.seat.inside.seat.me.0 ≡ c.args.seat.now.knows
mine c = ap (λ s. s.knows) c.seat.view_is

ours : (c : After-self) → c.self.inside.layout.book ≡ c.seat.inside.seat.me.0.book
ours c = ap (λ t. t.book) c.self.view_is ∙ sym (ap (λ (t : Knowledge). t.book) (mine c) ∙ c.requires.board.book)

kept : (c : After-self) → IsKept c.seat.inside.seat.me.0
kept c = IsKept-IsSeat c.seat.inside.seat.me.0 c.seat.inside.process c.seat.inside.published c.seat.invariant.1

may : (c : After-self) (d : Decision) (r : Request) → MayPropose c.args.self.now.book c.args.seat.now.knows c.args.account c.args.round d r
    → MayPropose c.seat.inside.seat.me.0.book c.seat.inside.seat.me.0 c.args.account c.args.round d r
may c d r =
    to_seat (λ b v. MayPropose b v c.args.account c.args.round d r) c.args.self.now.book c.args.seat.now.knows c.seat.inside.seat.me.0 c.requires.board.book (mine c)

-- the board has the cell
place : (c : After-self) → IsAddress c.seat.inside.seat.me.0.book (cell_of c.args.account c.args.round)
place c =
    let d : Decision = c.requires.proposal.0 in
    let r : Request = c.requires.proposal.1 in
    IsAddress-MayPropose c.seat.inside.seat.me.0 c.args.account c.args.round d r (kept c).history (kept c).in_range (may c d r c.requires.proposal.2)

pub cell_index-index-requires-clause-place : goal.cell_index-index-requires-clause-place
cell_index-index-requires-clause-place c = subst (λ t. IsAddress t (cell_of c.args.account c.args.round)) (sym (ours c)) (place c)

at : (c : After-cell_index-index) → c.cell_index-index.result ≡ index_of c.seat.inside.seat.me.0.book (cell_of c.args.account c.args.round)
at c =
    let known : After-self = (goal.at.After-cell_index-index c).After-self in
    c.cell_index-index.ensures.index ∙ ap (λ t. index_of t (cell_of c.args.account c.args.round)) (ours known)

-- the step decides the round, or finds what decided it
told : (c : After-compare_exchange-found) (d : Decision) (r : Request)
    → MayPropose c.args.self.now.book c.args.seat.now.knows c.args.account c.args.round d r → c.args.proposal ≡ word_of d
    → let v : Knowledge = c.seat.inside.seat.me.0 in
    Decides v.book v c.compare_exchange-found.new.seat.me.0 c.args.account c.args.round d (word_after c.compare_exchange-found.result c.args.proposal)
told c d r asked word =
    let indexed : After-cell_index-index = (goal.at.After-compare_exchange-found c).After-cell_index-index in
    let known : After-self = (goal.at.After-cell_index-index indexed).After-self in
    c.compare_exchange-found.ensures.2.2 c.args.account c.args.round d r (may known d r asked) (at indexed) word

pub compare_exchange-found-requires : goal.compare_exchange-found-requires
compare_exchange-found-requires c =
    let indexed : After-cell_index-index = (goal.at.compare_exchange-found-requires c).After-cell_index-index in
    let known : After-self = (goal.at.After-cell_index-index indexed).After-self in
    let d : Decision = c.requires.proposal.0 in
    let r : Request = c.requires.proposal.1 in (
      ap (λ s. s.board) c.seat.view_is ∙ (c.requires.board.id ∙ sym (ap (λ t. t.id) c.self.view_is)),
      omega (
        arith,
        c.self.invariant.1,
        ap word_count (ours known),
        at indexed,
        index_of-below c.seat.inside.seat.me.0.book (cell_of c.args.account c.args.round) (place known),
      ),
      decides_at c.self.inside.table.shared.key.value c.self.inside.table.shared.table_id.slots c.seat.inside.seat.id c.seat.inside.seat.me
          c.args.account c.args.round d r c.cell_index-index.result c.args.proposal (c.self.invariant.0 ∙ ours known) (at indexed)
          c.requires.proposal.3 (kept known) (may known d r c.requires.proposal.2),
    )

pub invariant_of-seat : goal.invariant_of-seat
invariant_of-seat c =
    let after : After-compare_exchange-found = (goal.at.invariant_of-seat c).After-compare_exchange-found in
    let v : Knowledge = c.seat.inside.seat.me.0 in
    let w : Knowledge = c.compare_exchange-found.new.seat.me.0 in
    let d : Decision = c.requires.proposal.0 in
    let n = word_after c.compare_exchange-found.result c.args.proposal in
    let decided = told after d c.requires.proposal.1 c.requires.proposal.2 c.requires.proposal.3 in (
      c.compare_exchange-found.ensures.2.0 ∙ c.seat.invariant.0,
      IsSeat-step v _ w _ c.seat.inside.process c.seat.inside.published c.seat.inside.published c.seat.invariant.1 refl refl decided.same
          c.seat.invariant.1.published_is c.compare_exchange-found.ensures.2.1,
      HasCounts-decided v.book v w c.args.account c.args.round d n c.seat.inside.announced.items (omega (arith, c.seat.invariant.1.one_part))
          c.seat.invariant.1.accounts decided c.seat.invariant.2,
    )

pub returns-clause-decided : goal.returns-clause-decided
returns-clause-decided c = λ d r asked word.
    let after : After-compare_exchange-found = (goal.at.returns-clause-decided c).After-compare_exchange-found in
    let w : Knowledge = c.compare_exchange-found.new.seat.me.0 in
    subst (λ n. Decides c.args.self.now.book c.args.seat.now.knows w c.args.account c.args.round d n) (sym c.decided_word.ensures)
    (to_caller (λ b v. Decides b v w c.args.account c.args.round d (word_after c.compare_exchange-found.result c.args.proposal)) c.args.self.now.book
    c.args.seat.now.knows c.seat.inside.seat.me.0 c.requires.board.book (ap (λ s. s.knows) c.seat.view_is) (told after d r asked word))

pub returns-clause-seat : goal.returns-clause-seat
returns-clause-seat c = c.compare_exchange-found.ensures.2.1

pub returns-clause-exchanges : goal.returns-clause-exchanges
returns-clause-exchanges c = grind (arith, common_steps)

pub returns-clause-steps : goal.returns-clause-steps
returns-clause-steps c = grind (arith, common_steps)

pub returns-clause-board : goal.returns-clause-board
returns-clause-board c = grind (arith, common_steps)
