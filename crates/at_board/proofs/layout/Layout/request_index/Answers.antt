use Rattle.std.proofs.Common.{◌≡◌, ◌+◌, ◌*◌, length, take, ap, ◌∙◌, arith}
use Rattle.at_board.proofs.Prelude.{common_steps, sum_by, take_all, BookTerms, slots_of, request_word}
use Rattle.at_board.proofs.WordLaws.Addresses.{index_of-below}
use Rattle.at_board.proofs.WordLaws.Sizes.{word_count-le}
use Rattle.at_board.proofs.WordLaws.Slots.{IsRequestAddress, index_of-request_word, request_index-computed}
use Rattle.at_board.proofs.layout.Layout.request_index.Goals.{After-first_slot, After-request_room}
use Rattle.at_board.proofs.layout.Layout.request_index.Goals as goal

all_slots : (c : After-first_slot) → let b : BookTerms = c.args.self.now.book in c.first_slot.result ≡ sum_by slots_of (take (length b.accounts) b.accounts)
all_slots c = c.first_slot.ensures ∙ (λ t. sum_by slots_of (take (c.accounts.ensures.count t) c.args.self.now.book.accounts))

-- the index, as it is computed
computed : (c : After-request_room) → IsRequestAddress c.args.self.now.book c.args.account c.args.slot c.args.number c.args.j
    (c.args.self.now.slots_start + c.first_slot.result) ((c.first_slot-2.result + c.args.slot) * c.request_room.result + c.args.number)
computed c =
    let first : After-first_slot = (goal.at.After-request_room c).After-first_slot in
    request_index-computed c.args.self.now.book c.args.account c.args.slot c.args.number c.args.j c.args.self.now.slots_start c.first_slot.result c.first_slot-2.result
    c.request_room.result c.known.ensures.checked.begun c.requires.place c.requires.layout.slots (all_slots first)
    c.first_slot-2.ensures c.request_room.ensures

pub overflow_add-start : goal.overflow_add-start
overflow_add-start c =
    let b : BookTerms = c.args.self.now.book in
    let first : After-first_slot = (goal.at.overflow_add-start c).After-first_slot in
    omega (
      arith,
      c.requires.layout.slots,
      all_slots first,
      ap (sum_by slots_of) (take_all (length b.accounts) b.accounts (omega arith)),
      index_of-request_word b c.args.account c.args.slot c.args.number c.args.j,
      index_of-below b (request_word c.args.account c.args.slot c.args.number c.args.j) c.requires.place,
      word_count-le b c.known.ensures.checked.begun,
    )

pub overflow_mul-requests : goal.overflow_mul-requests
overflow_mul-requests c = omega (arith, (computed (goal.at.overflow_mul-requests c).After-request_room).small)

pub overflow_add-requests : goal.overflow_add-requests
overflow_add-requests c = omega (arith, (computed (goal.at.overflow_add-requests c).After-request_room).small)

pub overflow_mul-result : goal.overflow_mul-result
overflow_mul-result c = omega (arith, (computed (goal.at.overflow_mul-result c).After-request_room).small)

pub overflow_add-result : goal.overflow_add-result
overflow_add-result c = omega (arith, (computed (goal.at.overflow_add-result c).After-request_room).small)

pub overflow_add-result-2 : goal.overflow_add-result-2
overflow_add-result-2 c = omega (arith, (computed (goal.at.overflow_add-result-2 c).After-request_room).small)

pub returns : goal.returns
returns c = record { index = (computed (goal.at.returns c).After-request_room).here }

pub overflow_add-slots : goal.overflow_add-slots
overflow_add-slots c = grind (arith, common_steps)

pub first_slot-requires : goal.first_slot-requires
first_slot-requires c = grind (arith, common_steps)
