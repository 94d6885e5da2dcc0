use Rattle.std.proofs.Common.{arith}
use Rattle.at_logs.proofs.Prelude.{length-append, read_items, read_message}
use Rattle.at_logs.proofs.ReaderLoops.{ends, goes_on, is_done}
use Rattle.at_logs.proofs.reading.so_many_messages.Goals as goal

pub returns-in_default-clause-read : goal.returns-in_default-clause-read
returns-in_default-clause-read c =
    let one = read_message c.args.accounts in
    ends one c.loop.messages.items c.args.count c.loop.counter c.loop.rest.now (read_items one c.args.count c.args.bytes.now) c.loop-test.true c.in_default.ensures
    c.loop.invariant.so_far

pub loop-preserved : goal.loop-preserved
loop-preserved c =
    let one = read_message c.args.accounts in
    record {
      long = rw (c.in_ok-push.ensures.items, length-append) (omega (arith, c.loop.invariant.long));
      so_far = rw c.in_ok-push.ensures.items (goes_on one c.loop.messages.items c.args.count c.loop.counter c.loop.rest.now c.in-Some.message c.in-Some.after.now
          (read_items one c.args.count c.args.bytes.now) c.loop-test.true c.in-Some.ensures c.loop.invariant.so_far);
    }

pub returns-clause-read : goal.returns-clause-read
returns-clause-read c =
    let one = read_message c.args.accounts in
    is_done one c.loop.messages.items c.args.count c.loop.counter c.loop.rest.now (read_items one c.args.count c.args.bytes.now) c.loop-test.false c.loop.invariant.so_far
