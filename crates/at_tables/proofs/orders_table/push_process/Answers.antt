use Rattle.std.proofs.Common.{◌≡◌, ◌+◌, ◌++◌, ◌<◌, ◌∙◌, ℕ, arith, length}
use Rattle.at_tables.proofs.Prelude.{get_or_read, Words, record_text, records_text-map_more, call_at, replies_at, replies_fields}
use Rattle.at_tables.proofs.orders_table.push_process.Goals as goal

pub loop-i-preserved : goal.loop-i-preserved
loop-i-preserved c =
    let i : ℕ = c.loop-i.i in
    let fields : ℕ → Words = λ i. replies_fields c.args.book.now c.args.names.now c.args.process (i + 1) (call_at c.args.calls.now i) (replies_at c.args.answers.now i) in
    let within : i < length c.args.calls.now = omega (arith, c.loop-i-test.true, c.loop-i.auto.i-end) in
    let call : c.index-calls-i.result ≡ call_at c.args.calls.now i =
    get_or_read c.args.calls.now i _ within c.index-calls-i.is _ in
    let line : c.push_record.new.out.items ≡ c.loop-i.out.items ++ record_text (fields i) =
    rw (← call) c.in_ok-push_record.ensures in
    line ∙ rw c.loop-i.invariant (records_text-map_more fields c.args.out.now.items i)
