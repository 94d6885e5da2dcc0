use Rattle.std.proofs.Common.{◌≡◌, ℕ, ◌++◌, ◌∷◌, [], ◌+◌, suc, ap, arith, length, map, sym, ◌∙◌}
use Rattle.at_journal.proofs.Prelude.{range_with_len, length-keys_from, line_key-receipt, previous_key, receipts_of, journal_order, line_key, receipt_at, key_of, keys_of, Keyed}
use Rattle.at_journal.proofs.OrderedLaws.{pushed-range}
use Rattle.at_journal.proofs.lines.push_calls.Goals as goal

pub loop-number-preserved : goal.loop-number-preserved
loop-number-preserved c =
    let p = c.args.p in
    let closing = c.args.closing.now in
    let i = c.loop-number.number in
    let one : ℕ → Keyed = λ j. record { key = line_key closing p j; process = p; number = j } in
    let next : suc i ≡ i + 1 = omega arith in
    let is : c.key_of-key.result ≡ line_key closing p i =
    c.key_of-key.ensures
    ∙ (ap (λ k. key_of p (journal_order closing) k (receipt_at (receipts_of closing p) i)) c.loop-number.invariant.key
    ∙ sym (line_key-receipt closing p i (omega (arith, ap length c.receipts.ensures)))) in
    record {
      pushed = c.in_ok-push.ensures.items
          ∙ (ap (λ k. c.loop-number.all.items ++ record { key = k; process = p; number = i } ∷ []) is
          ∙ pushed-range one c.args.all.now.items c.loop-number.all.items i c.loop-number.invariant.pushed);
      key = is ∙ ap (previous_key closing p) next;
    }

pub returns : goal.returns
returns c =
    let p = c.args.p in
    let closing = c.args.closing.now in
    let one : ℕ → Keyed = λ j. record { key = line_key closing p j; process = p; number = j } in
    let all : c.loop-number.number ≡ length (keys_of p (journal_order closing) (receipts_of closing p)) =
    omega (arith, ap length c.receipts.ensures, length-keys_from p (journal_order closing) 0 (receipts_of closing p), c.requires.few) in
    c.loop-number.invariant.pushed ∙ ap (λ n. c.args.all.now.items ++ map one (range_with_len 0 n)) all
