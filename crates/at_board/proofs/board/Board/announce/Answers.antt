use Rattle.std.proofs.Common.{refl, ◌≡◌, ◌+◌, ℕ, sym, ap, subst, ◌∙◌, arith}
use Rattle.at_board.proofs.Prelude.{common_steps, BookTerms, IsKept, Request, Knowledge, MayAnnounce, announced_of, index_of, word_count, Announces, HasSlot}
use Rattle.at_board.proofs.KnowledgeLaws.Books.{to_caller, to_seat}
use Rattle.at_board.proofs.KnowledgeLaws.Kept.{IsKept-IsSeat, IsSeat-step}
use Rattle.at_board.proofs.StepLaws.Announce.{HasCounts-announce, MayAnnounce-slot, announces_at, place-MayAnnounce}
use Rattle.at_board.proofs.WordLaws.Addresses.{index_of-below}
use Rattle.at_board.proofs.KnowledgeLaws.Asking.{same_slot}
use Rattle.at_board.proofs.StepLaws.StoreRequestWord.{next_number}
use Rattle.at_board.proofs.board.Board.announce.Goals.{After-from, After-store}
use Rattle.at_board.proofs.board.Board.announce.Goals as goal

-- the seat is the one that callers see, and the board has the book that the seat knows
mine : (c : After-from) → c.seat.inside.seat.me.0 ≡ c.args.seat.now.knows
mine c = ap (λ s. s.knows) c.seat.view_is

ours : (c : After-from) → c.self.inside.layout.book ≡ c.seat.inside.seat.me.0.book
ours c = ap (λ t. t.book) c.self.view_is ∙ sym (ap (λ (t : Knowledge). t.book) (mine c) ∙ c.requires.board.book)

kept : (c : After-from) → IsKept c.seat.inside.seat.me.0
kept c = IsKept-IsSeat c.seat.inside.seat.me.0 c.seat.inside.process c.seat.inside.published c.seat.invariant.1

has : (c : After-from) → HasSlot c.args.self.now.book c.args.seat.now.knows.first c.args.account c.own_slot-own.result
has c = subst (λ p. HasSlot c.args.self.now.book p c.args.account c.own_slot-own.result) c.process.ensures.process c.own_slot-own.ensures.slot

at : (c : After-from) → c.announced_index-word.result ≡ index_of c.seat.inside.seat.me.0.book (announced_of c.args.account c.own_slot-own.result)
at c =
    c.announced_index-word.ensures.index
    ∙ ap (λ t. index_of t (announced_of c.args.account c.own_slot-own.result)) (ours c)

may : (c : After-from) (k : ℕ) (q : Request) → MayAnnounce c.args.self.now.book c.args.seat.now.knows c.args.account k q
    → MayAnnounce c.seat.inside.seat.me.0.book c.seat.inside.seat.me.0 c.args.account c.own_slot-own.result q
may c k q asked =
    to_seat (λ b v. MayAnnounce b v c.args.account c.own_slot-own.result q) c.args.self.now.book c.args.seat.now.knows c.seat.inside.seat.me.0
    c.requires.board.book (mine c) (MayAnnounce-slot c.args.self.now.book c.args.seat.now.knows c.args.account k c.own_slot-own.result q asked (has c))

counted : (c : After-from) → c.announced-count.result ≡ next_number c.seat.inside.seat.me.0 c.args.account
counted c = c.announced-count.ensures ∙ ap (λ u. next_number u c.args.account) (sym (mine c))

pub store-requires : goal.store-requires
store-requires c =
    let before : After-from = (goal.at.store-requires c).After-from in
    let v : Knowledge = c.seat.inside.seat.me.0 in
    let a = c.args.account in
    let slot = c.own_slot-own.result in
    let r : Request = c.requires.request.1 in
    let asked = may before c.requires.request.0 r c.requires.request.2 in (
      ap (λ s. s.board) c.seat.view_is ∙ (c.requires.board.id ∙ sym (ap (λ t. t.id) c.self.view_is)),
      omega (
        arith,
        c.self.invariant.1,
        ap word_count (ours before),
        at before,
        index_of-below v.book (announced_of a slot) (place-MayAnnounce v.book v a slot r asked),
      ),
      announces_at c.self.inside.table.shared.key.value c.self.inside.table.shared.table_id.slots c.seat.inside.seat.id c.seat.inside.seat.me
          a slot r c.announced_index-word.result c.from.result (c.self.invariant.0 ∙ ours before) (at before) (omega (arith, c.from.ensures, counted before))
          (kept before) asked,
    )

pub invariant_of-seat : goal.invariant_of-seat
invariant_of-seat c =
    let after : After-store = (goal.at.invariant_of-seat c).After-store in
    let before : After-from = (goal.at.After-store after).After-from in
    let v : Knowledge = c.seat.inside.seat.me.0 in
    let w : Knowledge = c.store.new.seat.me.0 in
    let a = c.args.account in
    let slot = c.own_slot-own.result in
    let r : Request = c.requires.request.1 in
    let announced = c.store.ensures.2.2 a slot r (may before c.requires.request.0 r c.requires.request.2) (at before) in (
      c.store.ensures.2.0 ∙ c.seat.invariant.0,
      IsSeat-step v _ w _ c.seat.inside.process c.seat.inside.published c.seat.inside.published c.seat.invariant.1 refl refl announced.same
          c.seat.invariant.1.published_is c.store.ensures.2.1,
      HasCounts-announce v.book v w a slot r (c.announced-count.result + 1) c.seat.inside.announced.items (omega (arith, c.seat.invariant.1.one_part)) c.seat.invariant.1.accounts
          (omega (arith, counted before)) announced c.seat.invariant.2,
    )

pub returns-clause-announced : goal.returns-clause-announced
returns-clause-announced c = λ k q asks.
    let after : After-store = (goal.at.returns-clause-announced c).After-store in
    let before : After-from = (goal.at.After-store after).After-from in
    let b : BookTerms = c.args.self.now.book in
    let v : Knowledge = c.args.seat.now.knows in
    let w : Knowledge = c.store.new.seat.me.0 in
    let a = c.args.account in
    let slot = c.own_slot-own.result in
    let here : Announces b v w a slot q =
    to_caller (λ t u. Announces t u w a slot q) b v c.seat.inside.seat.me.0 c.requires.board.book (mine before)
    (c.store.ensures.2.2 a slot q (may before k q asks) (at before)) in
    subst (λ n. Announces b v w a n q) (same_slot b v.first a slot k (has before) asks.asks.slot_in) here

pub returns-clause-seat : goal.returns-clause-seat
returns-clause-seat c = c.store.ensures.2.1

pub index_mut-requires : goal.index_mut-requires
index_mut-requires c = grind (arith, common_steps)

pub returns-clause-exchanges : goal.returns-clause-exchanges
returns-clause-exchanges c = grind (arith, common_steps)

pub returns-clause-steps : goal.returns-clause-steps
returns-clause-steps c = grind (arith, common_steps)

pub overflow_add-count : goal.overflow_add-count
overflow_add-count c = grind (arith, common_steps)

pub returns-clause-board : goal.returns-clause-board
returns-clause-board c = grind (arith, common_steps)

pub announced-count-requires-clause-slot : goal.announced-count-requires-clause-slot
announced-count-requires-clause-slot c = grind (arith, common_steps)

pub own_slot-own-requires : goal.own_slot-own-requires
own_slot-own-requires c = grind (arith, common_steps)
