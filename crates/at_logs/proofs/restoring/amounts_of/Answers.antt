use Rattle.std.specs.Int.{w64}
use Rattle.at_logs.proofs.Prelude.{read_items, read_number}
use Rattle.at_logs.proofs.ReaderLoops.{ends, goes_on, is_done}
use Rattle.at_logs.proofs.restoring.amounts_of.Goals as goal

pub returns-in_default : goal.returns-in_default
returns-in_default c =
    let one = read_number w64 in
    ends one c.loop.amounts.items c.args.count c.loop.counter c.loop.rest.now (read_items one c.args.count c.args.bytes.now) c.loop-test.true c.in_default.ensures c.loop.invariant

pub loop-preserved : goal.loop-preserved
loop-preserved c =
    let one = read_number w64 in
    rw c.in_ok-push.ensures.items (goes_on one c.loop.amounts.items c.args.count c.loop.counter c.loop.rest.now c.in-Some.amount c.in-Some.after.now
    (read_items one c.args.count c.args.bytes.now) c.loop-test.true c.in-Some.ensures c.loop.invariant)

pub returns : goal.returns
returns c =
    let one = read_number w64 in
    is_done one c.loop.amounts.items c.args.count c.loop.counter c.loop.rest.now (read_items one c.args.count c.args.bytes.now) c.loop-test.false c.loop.invariant
