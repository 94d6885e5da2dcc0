use Rattle.std.proofs.Common.{refl, ◌≡◌, ◌<◌, sym, ap, subst, ◌∙◌, arith}
use Rattle.at_board.proofs.Prelude.{common_steps, Knowledge, length_of, word_count, LoadsLength}
use Rattle.at_board.proofs.KnowledgeLaws.Books.{to_caller}
use Rattle.at_board.proofs.KnowledgeLaws.Kept.{IsKept-IsSeat, IsSeat-step, count_of-IsHistory}
use Rattle.at_board.proofs.WordLaws.Addresses.{index_of-below}
use Rattle.at_board.proofs.KnowledgeLaws.Counts.{HasCounts-load}
use Rattle.at_board.proofs.StepLaws.Table.{index_of-length_of, loads_length_at}
use Rattle.at_board.proofs.board.Board.load_length.Goals.{After-load-length}
use Rattle.at_board.proofs.board.Board.load_length.Goals as goal

pub load-length-requires : goal.load-length-requires
load-length-requires c =
    let v : Knowledge = c.seat.inside.seat.me.0 in
    let book : v.book ≡ c.args.self.now.book = ap (λ s. s.knows.book) c.seat.view_is ∙ c.requires.board.book in
    let ours : c.self.inside.layout.book ≡ v.book = ap (λ t. t.book) c.self.view_is ∙ sym book in
    let within : c.args.p < v.book.processes = subst (λ t. c.args.p < t.processes) (sym book) c.requires.process in (
      ap (λ s. s.board) c.seat.view_is ∙ (c.requires.board.id ∙ sym (ap (λ t. t.id) c.self.view_is)),
      omega (arith, c.self.invariant.1, ap word_count ours, index_of-below v.book (length_of c.args.p) within, index_of-length_of v.book c.args.p),
      loads_length_at c.self.inside.table.shared.key.value _ _ c.seat.inside.seat.me c.args.p (c.self.invariant.0 ∙ ours)
          (IsKept-IsSeat v c.seat.inside.process c.seat.inside.published c.seat.invariant.1) within,
    )

-- the step loads the length
told : (c : After-load-length) → c.args.p < c.seat.inside.seat.me.0.book.processes
    → let v : Knowledge = c.seat.inside.seat.me.0 in LoadsLength v.book v c.load-length.new.seat.me.0 c.args.p c.load-length.result
told c within = c.load-length.ensures.2.2 c.args.p within (sym (index_of-length_of c.seat.inside.seat.me.0.book c.args.p))

within : (c : After-load-length) → c.args.p < c.seat.inside.seat.me.0.book.processes
within c = subst (λ t. c.args.p < t.processes) (sym (ap (λ s. s.knows.book) c.seat.view_is ∙ c.requires.board.book)) c.requires.process

pub overflow_cast-result : goal.overflow_cast-result
overflow_cast-result c =
    let after : After-load-length = (goal.at.overflow_cast-result c).After-load-length in
    let loaded = told after (within after) in
    omega (
      arith,
      loaded.counted,
      count_of-IsHistory c.seat.inside.seat.me.0.book c.load-length.new.seat.me.0.seen c.args.p c.seat.invariant.1.book.begun (within after) loaded.history,
    )

pub invariant_of-seat : goal.invariant_of-seat
invariant_of-seat c =
    let after : After-load-length = (goal.at.invariant_of-seat c).After-load-length in
    let v : Knowledge = c.seat.inside.seat.me.0 in
    let w : Knowledge = c.load-length.new.seat.me.0 in
    let loaded = told after (within after) in (
      c.load-length.ensures.2.0 ∙ c.seat.invariant.0,
      IsSeat-step v _ w _ c.seat.inside.process c.seat.inside.published c.seat.inside.published c.seat.invariant.1 refl refl loaded.same
          c.seat.invariant.1.published_is c.load-length.ensures.2.1,
      HasCounts-load v.book v w c.args.p c.load-length.result c.seat.inside.announced.items (omega (arith, c.seat.invariant.1.one_part)) loaded c.seat.invariant.2,
    )

pub returns-clause-told : goal.returns-clause-told
returns-clause-told c =
    let after : After-load-length = (goal.at.returns-clause-told c).After-load-length in
    to_caller (λ b v. LoadsLength b v c.load-length.new.seat.me.0 c.args.p c.load-length.result) c.args.self.now.book c.args.seat.now.knows
    c.seat.inside.seat.me.0 c.requires.board.book (ap (λ s. s.knows) c.seat.view_is) (told after (within after))

pub returns-clause-seat : goal.returns-clause-seat
returns-clause-seat c = c.load-length.ensures.2.1

pub returns-clause-steps : goal.returns-clause-steps
returns-clause-steps c = grind (arith, common_steps)

pub returns-clause-exchanges : goal.returns-clause-exchanges
returns-clause-exchanges c = grind (arith, common_steps)

pub returns-clause-small : goal.returns-clause-small
returns-clause-small c =
    let after : After-load-length = (goal.at.returns-clause-small c).After-load-length in
    let loaded = told after (within after) in
    omega (
      arith,
      loaded.counted,
      count_of-IsHistory c.seat.inside.seat.me.0.book c.load-length.new.seat.me.0.seen c.args.p c.seat.invariant.1.book.begun (within after) loaded.history,
    )
