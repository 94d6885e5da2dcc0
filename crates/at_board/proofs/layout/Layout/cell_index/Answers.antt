use Rattle.std.proofs.Common.{◌≡◌, ℕ, length, take, refl, ap, ◌∙◌, arith}
use Rattle.at_board.proofs.Prelude.{common_steps, sum_by, take_all, BookTerms, slots_of}
use Rattle.at_board.proofs.WordLaws.Cells.{IsCellIndex, IsCellIndex-computed}
use Rattle.at_board.proofs.layout.Layout.cell_index.Goals.{After-first_slot, After-request_room-room}
use Rattle.at_board.proofs.layout.Layout.cell_index.Goals as goal

-- the index and its parts, as they are computed from the slots of the accounts before this one
computed : (c : After-request_room-room) (first : ℕ) → first ≡ sum_by slots_of (take c.args.account c.args.self.now.book.accounts)
    → IsCellIndex c.args.self.now.book c.args.account c.args.round c.args.self.now.slots_start c.first_slot-slots.result c.request_room-room.result first
computed c first is =
    let b : BookTerms = c.args.self.now.book in
    let all : c.first_slot-slots.result ≡ sum_by slots_of (take (length b.accounts) b.accounts) =
    c.first_slot-slots.ensures ∙ (λ t. sum_by slots_of (take (c.accounts.ensures.count t) b.accounts)) in
    IsCellIndex-computed b c.args.account c.args.round c.args.self.now.slots_start c.first_slot-slots.result c.request_room-room.result first c.known.ensures.checked.begun
    c.requires.place c.requires.layout.slots (all ∙ ap (sum_by slots_of) (take_all (length b.accounts) b.accounts (omega arith))) c.request_room-room.ensures is

index : (c : After-first_slot) → IsCellIndex c.args.self.now.book c.args.account c.args.round c.args.self.now.slots_start c.first_slot-slots.result
    c.request_room-room.result c.first_slot.result
index c = computed (goal.at.After-first_slot c).After-request_room-room c.first_slot.result c.first_slot.ensures

pub overflow_add-result : goal.overflow_add-result
overflow_add-result c = omega (arith, (computed (goal.at.overflow_add-result c).After-request_room-room _ refl).all)

pub overflow_mul-result : goal.overflow_mul-result
overflow_mul-result c = omega (arith, (computed (goal.at.overflow_mul-result c).After-request_room-room _ refl).requests)

pub overflow_mul-result-2 : goal.overflow_mul-result-2
overflow_mul-result-2 c = omega (arith, (computed (goal.at.overflow_mul-result-2 c).After-request_room-room _ refl).all)

pub overflow_add-result-2 : goal.overflow_add-result-2
overflow_add-result-2 c = omega (arith, (computed (goal.at.overflow_add-result-2 c).After-request_room-room _ refl).all)

pub overflow_mul-result-3 : goal.overflow_mul-result-3
overflow_mul-result-3 c = omega (arith, (index (goal.at.overflow_mul-result-3 c).After-first_slot).cells)

pub overflow_add-result-3 : goal.overflow_add-result-3
overflow_add-result-3 c = omega (arith, (index (goal.at.overflow_add-result-3 c).After-first_slot).all)

pub overflow_add-result-4 : goal.overflow_add-result-4
overflow_add-result-4 c = omega (arith, (index (goal.at.overflow_add-result-4 c).After-first_slot).all)

pub returns : goal.returns
returns c = record { index = (index (goal.at.returns c).After-first_slot).index }

pub first_slot-slots-requires : goal.first_slot-slots-requires
first_slot-slots-requires c = grind (arith, common_steps)

pub first_slot-requires : goal.first_slot-requires
first_slot-requires c = grind (arith, common_steps)
