use Rattle.std.proofs.Common.{refl, ◌≡◌, sym, ap, subst, ◌∙◌, arith}
use Rattle.at_board.proofs.Prelude.{common_steps, IsKept, Knowledge, MayStoreWord, index_of, record_word, word_count, StoresWord, own_part}
use Rattle.at_board.proofs.KnowledgeLaws.Books.{to_seat}
use Rattle.at_board.proofs.KnowledgeLaws.Kept.{IsKept-IsSeat, IsSeat-step, next_record}
use Rattle.at_board.proofs.WordLaws.Addresses.{index_of-below}
use Rattle.at_board.proofs.KnowledgeLaws.Counts.{HasCounts-store}
use Rattle.at_board.proofs.StepLaws.Table.{stores_word_at}
use Rattle.at_board.proofs.board.Board.store_record_word.Goals.{After-record_index-index, After-seat, After-store}
use Rattle.at_board.proofs.board.Board.store_record_word.Goals as goal

-- the seat is the one that callers see, and the board has the book that the seat knows
mine : (c : After-seat) → c.seat.inside.seat.me.0 ≡ c.args.seat.now.knows
mine c = ap (λ s. s.knows) c.seat.view_is

ours : (c : After-seat) → c.self.inside.layout.book ≡ c.seat.inside.seat.me.0.book
ours c = ap (λ t. t.book) c.self.view_is ∙ sym (ap (λ (t : Knowledge). t.book) (mine c) ∙ c.requires.board.book)

kept : (c : After-seat) → IsKept c.seat.inside.seat.me.0
kept c = IsKept-IsSeat c.seat.inside.seat.me.0 c.seat.inside.process c.seat.inside.published c.seat.invariant.1

may : (c : After-seat) → MayStoreWord c.seat.inside.seat.me.0.book c.seat.inside.seat.me.0 c.args.j
may c = to_seat (λ b v. MayStoreWord b v c.args.j) c.args.self.now.book c.args.seat.now.knows c.seat.inside.seat.me.0 c.requires.board.book (mine c) c.requires.word

-- the word's address, by what the seat knows
at : (c : After-record_index-index) → let v : Knowledge = c.seat.inside.seat.me.0 in
    c.record_index-index.result ≡ index_of v.book (record_word v.first (own_part v).published c.args.j)
at c =
    let v : Knowledge = c.seat.inside.seat.me.0 in
    let known : After-seat = (goal.at.After-record_index-index c).After-seat in
    c.record_index-index.ensures.index
    ∙ (ap (λ t. index_of t (record_word c.seat.inside.process c.seat.inside.published c.args.j)) (ours known)
    ∙ ap (index_of v.book) (next_record v c.seat.inside.process c.seat.inside.published c.args.j c.seat.invariant.1))

-- the step stores the word
told : (c : After-store) → StoresWord c.seat.inside.seat.me.0 c.store.new.seat.me.0 c.args.j c.args.w
told c =
    let indexed : After-record_index-index = (goal.at.After-store c).After-record_index-index in
    let asked = may (goal.at.After-record_index-index indexed).After-seat in
    c.store.ensures.2.2 c.args.j asked.word asked.room (at indexed)

pub store-requires : goal.store-requires
store-requires c =
    let indexed : After-record_index-index = (goal.at.store-requires c).After-record_index-index in
    let known : After-seat = (goal.at.After-record_index-index indexed).After-seat in
    let v : Knowledge = c.seat.inside.seat.me.0 in
    let asked = may known in (
      ap (λ s. s.board) c.seat.view_is ∙ (c.requires.board.id ∙ sym (ap (λ t. t.id) c.self.view_is)),
      omega (
        arith,
        c.self.invariant.1,
        ap word_count (ours known),
        at indexed,
        index_of-below v.book (record_word v.first (own_part v).published c.args.j) (c.seat.invariant.1.known, asked.room, asked.word),
      ),
      stores_word_at c.self.inside.table.shared.key.value c.self.inside.table.shared.table_id.slots c.seat.inside.seat.id c.seat.inside.seat.me c.args.j c.args.w
          c.record_index-index.result (c.self.invariant.0 ∙ ours known) (at indexed) (kept known) asked,
    )

pub invariant_of-seat : goal.invariant_of-seat
invariant_of-seat c =
    let v : Knowledge = c.seat.inside.seat.me.0 in
    let w : Knowledge = c.store.new.seat.me.0 in (
      c.store.ensures.2.0 ∙ c.seat.invariant.0,
      IsSeat-step v _ w _ c.seat.inside.process c.seat.inside.published c.seat.inside.published c.seat.invariant.1 refl refl (told c)
          c.seat.invariant.1.published_is c.store.ensures.2.1,
      HasCounts-store v w c.args.j c.args.w c.seat.inside.announced.items (omega (arith, c.seat.invariant.1.one_part)) (told c) c.seat.invariant.2,
    )

pub returns-clause-stored : goal.returns-clause-stored
returns-clause-stored c =
    subst (λ t. StoresWord t c.store.new.seat.me.0 c.args.j c.args.w) (ap (λ s. s.knows) c.seat.view_is) (told (goal.at.returns-clause-stored c).After-store)

pub returns-clause-seat : goal.returns-clause-seat
returns-clause-seat c = c.store.ensures.2.1

pub returns-clause-exchanges : goal.returns-clause-exchanges
returns-clause-exchanges c = grind (arith, common_steps)

pub returns-clause-steps : goal.returns-clause-steps
returns-clause-steps c = grind (arith, common_steps)
