use Rattle.std.proofs.Common.{refl, ◌≡◌, sym, ap, subst, ◌∙◌, arith}
use Rattle.at_board.proofs.Prelude.{common_steps, Knowledge, IsAddress, announced_of, index_of, word_count, LoadsAnnounced}
use Rattle.at_board.proofs.KnowledgeLaws.Books.{to_caller}
use Rattle.at_board.proofs.KnowledgeLaws.Kept.{IsKept-IsSeat, IsSeat-step}
use Rattle.at_board.proofs.StepLaws.LoadAnnounced.{HasCounts-announced, loads_announced_at}
use Rattle.at_board.proofs.WordLaws.Addresses.{index_of-below}
use Rattle.at_board.proofs.board.Board.load_announced.Goals.{After-load-count}
use Rattle.at_board.proofs.board.Board.load_announced.Goals as goal

pub load-count-requires : goal.load-count-requires
load-count-requires c =
    let v : Knowledge = c.seat.inside.seat.me.0 in
    let x = announced_of c.args.account c.args.slot in
    let book : v.book ≡ c.args.self.now.book = ap (λ s. s.knows.book) c.seat.view_is ∙ c.requires.board.book in
    let ours : c.self.inside.layout.book ≡ v.book = ap (λ t. t.book) c.self.view_is ∙ sym book in
    let is : IsAddress v.book x = subst (λ t. IsAddress t x) (sym book) (c.requires.account, c.requires.slot) in
    let at = c.announced_index-index.ensures.index ∙ ap (λ t. index_of t x) ours in (
      ap (λ s. s.board) c.seat.view_is ∙ (c.requires.board.id ∙ sym (ap (λ t. t.id) c.self.view_is)),
      omega (arith, c.self.invariant.1, ap word_count ours, at, index_of-below v.book x is),
      loads_announced_at c.self.inside.table.shared.key.value c.self.inside.table.shared.table_id.slots c.seat.inside.seat.id c.seat.inside.seat.me
          c.args.account c.args.slot c.announced_index-index.result (c.self.invariant.0 ∙ ours) at
          (IsKept-IsSeat v c.seat.inside.process c.seat.inside.published c.seat.invariant.1) is,
    )

-- the step loads the number
told : (c : After-load-count) → let v : Knowledge = c.seat.inside.seat.me.0 in
    LoadsAnnounced v.book v c.load-count.new.seat.me.0 c.args.account c.args.slot c.load-count.result
told c =
    let x = announced_of c.args.account c.args.slot in
    let book = ap (λ s. s.knows.book) c.seat.view_is ∙ c.requires.board.book in
    let ours = ap (λ t. t.book) c.self.view_is ∙ sym book in
    c.load-count.ensures.2.2 c.args.account c.args.slot (subst (λ t. IsAddress t x) (sym book) (c.requires.account, c.requires.slot))
    (c.announced_index-index.ensures.index ∙ ap (λ t. index_of t x) ours)

pub invariant_of-seat : goal.invariant_of-seat
invariant_of-seat c =
    let v : Knowledge = c.seat.inside.seat.me.0 in
    let w : Knowledge = c.load-count.new.seat.me.0 in
    let loaded = told (goal.at.invariant_of-seat c).After-load-count in (
      c.load-count.ensures.2.0 ∙ c.seat.invariant.0,
      IsSeat-step v _ w _ c.seat.inside.process c.seat.inside.published c.seat.inside.published c.seat.invariant.1 refl refl loaded.same
          c.seat.invariant.1.published_is c.load-count.ensures.2.1,
      HasCounts-announced v.book v w c.args.account c.args.slot c.load-count.result c.seat.inside.announced.items (omega (arith, c.seat.invariant.1.one_part))
          c.seat.invariant.1.accounts loaded c.seat.invariant.2,
    )

pub returns-clause-told : goal.returns-clause-told
returns-clause-told c =
    to_caller (λ b v. LoadsAnnounced b v c.load-count.new.seat.me.0 c.args.account c.args.slot c.load-count.result) c.args.self.now.book c.args.seat.now.knows
    c.seat.inside.seat.me.0 c.requires.board.book (ap (λ s. s.knows) c.seat.view_is) (told (goal.at.returns-clause-told c).After-load-count)

pub returns-clause-seat : goal.returns-clause-seat
returns-clause-seat c = c.load-count.ensures.2.1

pub overflow_cast-result : goal.overflow_cast-result
overflow_cast-result c = grind (arith, common_steps)

pub returns-clause-steps : goal.returns-clause-steps
returns-clause-steps c = grind (arith, common_steps)

pub returns-clause-exchanges : goal.returns-clause-exchanges
returns-clause-exchanges c = grind (arith, common_steps)
