use Rattle.std.proofs.Common.{◌≡◌, ℕ, ◌-◌, sym, ap, ◌∙◌, arith}
use Rattle.at_orders.proofs.Prelude.{account_of, at_else, part_ranges, Range}
use Rattle.at_orders.proofs.Sums.{sum-else-at, sum-else-off, sum-zero}
use Rattle.at_orders.proofs.whole.falls_and_rises.Goals as goal
use Rattle.at_orders.proofs.whole.falls_and_rises.Goals.{then-other-part, else-other-part}

pub loop-other-init : goal.loop-other-init
loop-other-init c =
    let opening : ℕ = (account_of c.args.book.now c.args.account).opening in
    let range = part_ranges c.args.done.now c.args.account in
    record {
      falls = sym (sum-zero (at_else c.args.part 0 (λ q. opening - (range q).least)));
      rises = sym (sum-zero (at_else c.args.part 0 (λ q. (range q).greatest - opening)));
      falls_fit = omega arith;
      rises_fit = omega arith;
    }

pub loop-other-preserved : goal.loop-other-preserved
loop-other-preserved c =
    let opening : ℕ = (account_of c.args.book.now c.args.account).opening in
    let falls : ℕ → ℕ = λ q. opening - (part_ranges c.args.done.now c.args.account q).least in
    let rises : ℕ → ℕ = λ q. (part_ranges c.args.done.now c.args.account q).greatest - opening in
    let so_far = c.loop-other.invariant in
    elim c.if-other-part.branch [
      | then-other-part w ↦
          let opens = c.opening-opening.ensures in
          let low = w.saturating_sub.ensures in
          let high = w.saturating_sub-then-other-part.ensures in
          let low_fits = w.saturating_sub.type_inv in
          let high_fits = w.saturating_sub-then-other-part.type_inv in
          let range : w.span_of-span.result ≡ part_ranges c.args.done.now c.args.account c.loop-other.other = w.span_of-span.ensures in
          let least : w.span_of-span.result.least ≡ (part_ranges c.args.done.now c.args.account c.loop-other.other).least = ap (λ (r : Range). r.least) range in
          let greatest : w.span_of-span.result.greatest ≡ (part_ranges c.args.done.now c.args.account c.loop-other.other).greatest = ap (λ (r : Range). r.greatest) range in
          let fall : w.from-falls.result ≡ falls c.loop-other.other = let from = w.from-falls.ensures in omega arith in
          let rise : w.from-rises.result ≡ rises c.loop-other.other = let from = w.from-rises.ensures in omega arith in
          record {
            falls = w.falls-is ∙ sum-else-off c.loop-other.other c.args.part falls c.loop-other.falls w.from-falls.result w.if-other-part.true fall so_far.falls;
            rises = w.rises-is ∙ sum-else-off c.loop-other.other c.args.part rises c.loop-other.rises w.from-rises.result w.if-other-part.true rise so_far.rises;
            falls_fit = let from = w.from-falls.ensures in let is = w.falls-is in omega arith;
            rises_fit = let from = w.from-rises.ensures in let is = w.rises-is in omega arith;
          }
      | else-other-part w ↦
          record {
            falls = w.falls-is ∙ sum-else-at c.loop-other.other c.args.part falls c.loop-other.falls w.if-other-part.false so_far.falls;
            rises = w.rises-is ∙ sum-else-at c.loop-other.other c.args.part rises c.loop-other.rises w.if-other-part.false so_far.rises;
            falls_fit = let is = w.falls-is in omega arith;
            rises_fit = let is = w.rises-is in omega arith;
          }
    ]
