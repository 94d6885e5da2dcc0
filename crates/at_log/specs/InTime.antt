-- A closing's journal in time: what stood before another call looked isn't behind it in the journal's order.
use Rattle.std.specs.Prelude.{◌≡◌, ℕ, ◌*◌, ◌<◌, ◌≤◌, false, List, length, slice_index}
use Rattle.at_log.specs.Prelude.{publication_at, place, publications_of, Publication}
use Rattle.at_log.specs.ClosingTerms.{ClosingTerms, receipts_of}
use Rattle.at_log.specs.JournalOrder.{line_key}
use Rattle.at_log.specs.Receipts.{is_success, receipt_at}
use Rattle.at_log.specs.Told.{keys_of}
use Rattle.at_log.specs.declared.receipt.At.{At}
use Rattle.at_log.specs.declared.receipt.At.TheVariants.{Cut, Own, Round, Previous}

-- the place of the look that a receipt rests on: that of its cut, of the view of its own record, or of its round's decision. A
-- receipt without a place has none
abbrev pub look_at : ℕ → List Publication → At → ℕ
look_at process list (Cut view) = place view
look_at process list (Own number) = place (publication_at (publications_of process list) number).view
look_at process list (Round round at) = at
look_at process list Previous = 0

-- of two calls the first has the smaller key in the journal's order, or the same where neither moved
pub record IsNotBehind (c : ClosingTerms) (p i q j : ℕ) : Type 0 where
  pub key : line_key c p i ≤ line_key c q j
  pub still : line_key c p i ≡ line_key c q j →
      (is_success (receipt_at (receipts_of c p) i).reply ≡ false) × (is_success (receipt_at (receipts_of c q) j).reply ≡ false)

-- where a length of the list stands between one receipt's key and another's look, the first isn't behind the second in the
-- journal's order
abbrev pub KeepsTime : List Publication → ClosingTerms → Type 0
KeepsTime list c = (p i q j length_between : ℕ) → p < length c.receipts → i < length (receipts_of c p) → q < length c.receipts
    → j < length (receipts_of c q) → slice_index (keys_of p list (receipts_of c p)) i ≤ 2 * length_between
    → length_between ≤ look_at q list (receipt_at (receipts_of c q) j).at → IsNotBehind c p i q j
