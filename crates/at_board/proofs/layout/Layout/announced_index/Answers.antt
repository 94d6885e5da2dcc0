use Rattle.std.proofs.Common.{◌≡◌, ◌+◌, ◌<◌, ◌^◌, arith}
use Rattle.at_board.proofs.Prelude.{BookTerms, IsBook, announced_of, index_of, Layout}
use Rattle.at_board.proofs.WordLaws.Addresses.{index_of-below}
use Rattle.at_board.proofs.WordLaws.Sizes.{word_count-le}
use Rattle.at_board.proofs.WordLaws.Slots.{index_of-announced_of}
use Rattle.at_board.proofs.layout.Layout.announced_index.Goals.{After-first_slot}
use Rattle.at_board.proofs.layout.Layout.announced_index.Goals as goal

at : (c : After-first_slot) → let l : Layout = c.args.self.now in
    l.slots_start + c.first_slot.result + c.args.slot ≡ index_of l.book (announced_of c.args.account c.args.slot)
at c = omega (arith, c.requires.layout.slots, c.first_slot.ensures, index_of-announced_of c.args.self.now.book c.args.account c.args.slot)

small : (c : After-first_slot) → IsBook c.args.self.now.book → c.args.self.now.slots_start + c.first_slot.result + c.args.slot < 2 ^ 32
small c book =
    let b : BookTerms = c.args.self.now.book in
    omega (arith, at c, index_of-below b (announced_of c.args.account c.args.slot) c.requires.place, word_count-le b book.begun)

pub overflow_add-result : goal.overflow_add-result
overflow_add-result c = omega (arith, small (goal.at.overflow_add-result c).After-first_slot c.known.ensures.checked)

pub overflow_add-result-2 : goal.overflow_add-result-2
overflow_add-result-2 c = omega (arith, small (goal.at.overflow_add-result-2 c).After-first_slot c.known.ensures.checked)

pub returns : goal.returns
returns c = record { index = at (goal.at.returns c).After-first_slot }
