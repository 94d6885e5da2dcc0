use Rattle.at_logs.proofs.Prelude.{read_items, read_kept_message}
use Rattle.at_logs.proofs.ReaderLoops.{ends, goes_on, is_done}
use Rattle.at_logs.proofs.restoring.so_many_kept_messages.Goals as goal

pub returns-in_default : goal.returns-in_default
returns-in_default c =
    let one = read_kept_message c.args.logs c.args.accounts in
    ends one c.loop.messages.items c.args.count c.loop.counter c.loop.rest.now (read_items one c.args.count c.args.bytes.now) c.loop-test.true c.in_default.ensures c.loop.invariant

pub loop-preserved : goal.loop-preserved
loop-preserved c =
    let one = read_kept_message c.args.logs c.args.accounts in
    rw c.in_ok-push_back.ensures.items (goes_on one c.loop.messages.items c.args.count c.loop.counter c.loop.rest.now c.in-Some.message c.in-Some.after.now
    (read_items one c.args.count c.args.bytes.now) c.loop-test.true c.in-Some.ensures c.loop.invariant)

pub returns : goal.returns
returns c =
    let one = read_kept_message c.args.logs c.args.accounts in
    is_done one c.loop.messages.items c.args.count c.loop.counter c.loop.rest.now (read_items one c.args.count c.args.bytes.now) c.loop-test.false c.loop.invariant
