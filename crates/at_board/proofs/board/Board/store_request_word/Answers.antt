use Rattle.std.proofs.Common.{refl, ◌≡◌, sym, ap, subst, ◌∙◌, arith}
use Rattle.at_board.proofs.Prelude.{common_steps, BookTerms, IsKept, Knowledge, MayStoreRequest, index_of, request_word, word_count, StoresRequestWord, HasSlot}
use Rattle.at_board.proofs.KnowledgeLaws.Books.{to_seat}
use Rattle.at_board.proofs.KnowledgeLaws.Kept.{IsKept-IsSeat, IsSeat-step}
use Rattle.at_board.proofs.WordLaws.Addresses.{index_of-below}
use Rattle.at_board.proofs.StepLaws.StoreRequestWord.{HasCounts-request_stored, MayStoreRequest-slot, next_number, place-MayStoreRequest, stores_request_word_at}
use Rattle.at_board.proofs.board.Board.store_request_word.Goals.{After-self, After-request_index-index, After-store}
use Rattle.at_board.proofs.board.Board.store_request_word.Goals as goal

-- the seat is the one that callers see, and the board has the book that the seat knows
mine : (c : After-self) → c.seat.inside.seat.me.0 ≡ c.args.seat.now.knows
mine c = ap (λ s. s.knows) c.seat.view_is

ours : (c : After-self) → c.self.inside.layout.book ≡ c.seat.inside.seat.me.0.book
ours c = ap (λ t. t.book) c.self.view_is ∙ sym (ap (λ (t : Knowledge). t.book) (mine c) ∙ c.requires.board.book)

kept : (c : After-self) → IsKept c.seat.inside.seat.me.0
kept c = IsKept-IsSeat c.seat.inside.seat.me.0 c.seat.inside.process c.seat.inside.published c.seat.invariant.1

may : (c : After-self) → MayStoreRequest c.seat.inside.seat.me.0.book c.seat.inside.seat.me.0 c.args.account c.own_slot-slot.result
may c =
    let b : BookTerms = c.args.self.now.book in
    let a = c.args.account in
    let slot = c.own_slot-slot.result in
    to_seat (λ t v. MayStoreRequest t v a slot) b c.args.seat.now.knows c.seat.inside.seat.me.0 c.requires.board.book (mine c)
    (MayStoreRequest-slot b c.args.seat.now.knows a c.requires.asks.0 slot c.requires.asks.1
    (subst (λ p. HasSlot b p a slot) c.process.ensures.process c.own_slot-slot.ensures.slot))

-- the word's address, by the number that the seat knows
at : (c : After-request_index-index) → let v : Knowledge = c.seat.inside.seat.me.0 in
    c.request_index-index.result ≡ index_of v.book (request_word c.args.account c.own_slot-slot.result (next_number v c.args.account) c.args.j)
at c =
    let v : Knowledge = c.seat.inside.seat.me.0 in
    let known : After-self = (goal.at.After-request_index-index c).After-self in
    c.request_index-index.ensures.index
    ∙ (ap (λ t. index_of t (request_word c.args.account c.own_slot-slot.result c.announced-next.result c.args.j)) (ours known)
    ∙ ap (λ n. index_of v.book (request_word c.args.account c.own_slot-slot.result n c.args.j))
    (c.announced-next.ensures ∙ ap (λ u. next_number u c.args.account) (sym (mine known))))

-- the step stores the word
told : (c : After-store) → StoresRequestWord c.seat.inside.seat.me.0 c.store.new.seat.me.0 c.args.account c.args.j c.args.w
told c =
    let indexed : After-request_index-index = (goal.at.After-store c).After-request_index-index in
    let known : After-self = (goal.at.After-request_index-index indexed).After-self in
    c.store.ensures.2.2 c.args.account c.own_slot-slot.result c.args.j (may known) c.requires.word (at indexed)

pub store-requires : goal.store-requires
store-requires c =
    let indexed : After-request_index-index = (goal.at.store-requires c).After-request_index-index in
    let known : After-self = (goal.at.After-request_index-index indexed).After-self in
    let v : Knowledge = c.seat.inside.seat.me.0 in
    let a = c.args.account in
    let slot = c.own_slot-slot.result in (
      ap (λ s. s.board) c.seat.view_is ∙ (c.requires.board.id ∙ sym (ap (λ t. t.id) c.self.view_is)),
      omega (
        arith,
        c.self.invariant.1,
        ap word_count (ours known),
        at indexed,
        index_of-below v.book (request_word a slot (next_number v a) c.args.j) (place-MayStoreRequest v.book v a slot c.args.j (may known) c.requires.word),
      ),
      stores_request_word_at c.self.inside.table.shared.key.value c.self.inside.table.shared.table_id.slots c.seat.inside.seat.id c.seat.inside.seat.me
          a slot c.args.j c.args.w c.request_index-index.result (c.self.invariant.0 ∙ ours known) (at indexed) (kept known) (may known) c.requires.word,
    )

pub invariant_of-seat : goal.invariant_of-seat
invariant_of-seat c =
    let v : Knowledge = c.seat.inside.seat.me.0 in
    let w : Knowledge = c.store.new.seat.me.0 in
    let a = c.args.account in (
      c.store.ensures.2.0 ∙ c.seat.invariant.0,
      IsSeat-step v _ w _ c.seat.inside.process c.seat.inside.published c.seat.inside.published c.seat.invariant.1 refl refl (told c)
          c.seat.invariant.1.published_is c.store.ensures.2.1,
      HasCounts-request_stored v w a c.args.j c.args.w c.seat.inside.announced.items (omega (arith, c.seat.invariant.1.one_part)) c.seat.invariant.1.accounts (told c) c.seat.invariant.2,
    )

pub returns-clause-stored : goal.returns-clause-stored
returns-clause-stored c =
    subst (λ t. StoresRequestWord t c.store.new.seat.me.0 c.args.account c.args.j c.args.w) (ap (λ s. s.knows) c.seat.view_is)
    (told (goal.at.returns-clause-stored c).After-store)

pub returns-clause-seat : goal.returns-clause-seat
returns-clause-seat c = c.store.ensures.2.1

pub returns-clause-exchanges : goal.returns-clause-exchanges
returns-clause-exchanges c = grind (arith, common_steps)

pub returns-clause-steps : goal.returns-clause-steps
returns-clause-steps c = grind (arith, common_steps)

pub returns-clause-board : goal.returns-clause-board
returns-clause-board c = grind (arith, common_steps)

pub own_slot-slot-requires : goal.own_slot-slot-requires
own_slot-slot-requires c = grind (arith, common_steps)

pub announced-next-requires-clause-slot : goal.announced-next-requires-clause-slot
announced-next-requires-clause-slot c = grind (arith, common_steps)
