use Rattle.std.proofs.Common.{refl, ◌≡◌, ◌+◌, ◌<◌, sym, ap, ◌∙◌, arith}
use Rattle.at_board.proofs.Prelude.{common_steps, log_room_of, IsKept, log_room_of-le, Publication, Knowledge, MayPublish, length_of, word_count, Publishes, own_part}
use Rattle.at_board.proofs.KnowledgeLaws.Books.{to_caller, to_seat}
use Rattle.at_board.proofs.KnowledgeLaws.Kept.{IsKept-IsSeat, IsSeat-step}
use Rattle.at_board.proofs.StepLaws.LogRoom.{published-MayEnter}
use Rattle.at_board.proofs.WordLaws.Addresses.{index_of-below}
use Rattle.at_board.proofs.StepLaws.Publish.{publishes_at}
use Rattle.at_board.proofs.KnowledgeLaws.Counts.{HasCounts-publish}
use Rattle.at_board.proofs.StepLaws.Table.{index_of-length_of}
use Rattle.at_board.proofs.board.Board.publish.Goals.{After-from, After-store}
use Rattle.at_board.proofs.board.Board.publish.Goals as goal

-- the seat is the one that callers see, and the board has the book that the seat knows
mine : (c : After-from) → c.seat.inside.seat.me.0 ≡ c.args.seat.now.knows
mine c = ap (λ s. s.knows) c.seat.view_is

ours : (c : After-from) → c.self.inside.layout.book ≡ c.seat.inside.seat.me.0.book
ours c = ap (λ t. t.book) c.self.view_is ∙ sym (ap (λ (t : Knowledge). t.book) (mine c) ∙ c.requires.board.book)

kept : (c : After-from) → IsKept c.seat.inside.seat.me.0
kept c = IsKept-IsSeat c.seat.inside.seat.me.0 c.seat.inside.process c.seat.inside.published c.seat.invariant.1

may : (c : After-from) (x : Publication) → MayPublish c.args.self.now.book c.args.seat.now.knows x
    → MayPublish c.seat.inside.seat.me.0.book c.seat.inside.seat.me.0 x
may c x = to_seat (λ b v. MayPublish b v x) c.args.self.now.book c.args.seat.now.knows c.seat.inside.seat.me.0 c.requires.board.book (mine c)

-- the log has room for the record
room : (c : After-from) → let v : Knowledge = c.seat.inside.seat.me.0 in (own_part v).published < log_room_of v.book v.first
room c =
    let v : Knowledge = c.seat.inside.seat.me.0 in
    let x : Publication = c.requires.record.0 in
    let asked = may c x c.requires.record.1 in
    published-MayEnter v x c.seat.inside.process c.seat.inside.published c.seat.invariant.1 asked.process asked.view asked.entry

pub store-requires : goal.store-requires
store-requires c =
    let before : After-from = (goal.at.store-requires c).After-from in
    let v : Knowledge = c.seat.inside.seat.me.0 in
    let seat = c.seat.invariant.1 in (
      ap (λ s. s.board) c.seat.view_is ∙ (c.requires.board.id ∙ sym (ap (λ t. t.id) c.self.view_is)),
      omega (
        arith,
        c.self.invariant.1,
        ap word_count (ours before),
        seat.process_is,
        index_of-length_of v.book v.first,
        index_of-below v.book (length_of v.first) seat.known,
      ),
      publishes_at c.self.inside.table.shared.key.value c.self.inside.table.shared.table_id.slots c.seat.inside.seat.id c.seat.inside.seat.me c.requires.record.0
          c.seat.inside.process (c.from.result + 1) (c.self.invariant.0 ∙ ours before) (sym seat.process_is) (omega (arith, c.from.ensures, seat.published_is))
          (kept before) (room before) (may before c.requires.record.0 c.requires.record.1),
    )

pub overflow_add-seat : goal.overflow_add-seat
overflow_add-seat c =
    let v : Knowledge = c.seat.inside.seat.me.0 in
    let seat = c.seat.invariant.1 in
    omega (
      arith,
      seat.published_is,
      room (goal.at.overflow_add-seat c).After-from,
      log_room_of-le v.book v.first seat.book.begun,
    )

pub invariant_of-seat : goal.invariant_of-seat
invariant_of-seat c =
    let after : After-store = (goal.at.invariant_of-seat c).After-store in
    let before : After-from = (goal.at.After-store after).After-from in
    let v : Knowledge = c.seat.inside.seat.me.0 in
    let w : Knowledge = c.store.new.seat.me.0 in
    let x : Publication = c.requires.record.0 in
    let published = c.store.ensures.2.2 x (may before x c.requires.record.1) in (
      c.store.ensures.2.0 ∙ c.seat.invariant.0,
      IsSeat-step v _ w _ c.seat.inside.process c.seat.inside.published (c.seat.inside.published + 1) c.seat.invariant.1 refl refl published.same
          (ap (λ n. n + 1) c.seat.invariant.1.published_is) c.store.ensures.2.1,
      HasCounts-publish v.book v w x c.seat.inside.announced.items (omega (arith, c.seat.invariant.1.one_part)) published c.seat.invariant.2,
    )

pub returns-clause-published : goal.returns-clause-published
returns-clause-published c = λ x asked.
    let after : After-store = (goal.at.returns-clause-published c).After-store in
    let before : After-from = (goal.at.After-store after).After-from in
    to_caller (λ b v. Publishes b v c.store.new.seat.me.0 x) c.args.self.now.book c.args.seat.now.knows c.seat.inside.seat.me.0 c.requires.board.book (mine before)
    (c.store.ensures.2.2 x (may before x asked))

pub returns-clause-seat : goal.returns-clause-seat
returns-clause-seat c = c.store.ensures.2.1

pub returns-clause-steps : goal.returns-clause-steps
returns-clause-steps c = grind (arith, common_steps)

pub returns-clause-exchanges : goal.returns-clause-exchanges
returns-clause-exchanges c = grind (arith, common_steps)
