use Rattle.std.proofs.Common.{◌≡◌, ◌+◌, ◌++◌, ◌<◌, ◌∙◌, ℕ, arith, length}
use Rattle.at_tables.proofs.Prelude.{get_or_read, receipt_at, Words, record_text, records_text-map_more, cost_at, cost_fields}
use Rattle.at_tables.proofs.costs_table.push_process.Goals as goal

pub loop-i-preserved : goal.loop-i-preserved
loop-i-preserved c =
    let i : ℕ = c.loop-i.i in
    let fields : ℕ → Words = λ i. cost_fields c.args.book.now c.args.names.now c.args.process (i + 1) (receipt_at c.args.receipts.now i) (cost_at c.args.costs.now i) in
    let within : i < length c.args.receipts.now = omega (arith, c.loop-i-test.true, c.loop-i.auto.i-end) in
    let receipt : c.index-receipts-i.result ≡ receipt_at c.args.receipts.now i =
    get_or_read c.args.receipts.now i _ within c.index-receipts-i.is _ in
    let cost : c.index-costs-i.result ≡ cost_at c.args.costs.now i =
    get_or_read c.args.costs.now i _ (omega (arith, within, c.requires.count)) c.index-costs-i.is _ in
    let line : c.push_record.new.out.items ≡ c.loop-i.out.items ++ record_text (fields i) =
    rw (← receipt, ← cost) c.in_ok-push_record.ensures in
    line ∙ rw c.loop-i.invariant (records_text-map_more fields c.args.out.now.items i)
