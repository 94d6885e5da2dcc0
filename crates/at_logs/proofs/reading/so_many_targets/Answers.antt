use Rattle.std.proofs.Common.{[], refl, arith}
use Rattle.at_logs.proofs.Prelude.{length-append, read_items, read_target}
use Rattle.at_logs.proofs.ReaderLoops.{ends, goes_on, is_done, starts}
use Rattle.at_logs.proofs.reading.so_many_targets.Goals as goal

pub returns-in_err-to : goal.returns-in_err-to
returns-in_err-to c =
    let one = read_target c.args.accounts in
    rw c.from_residual.ensures (ends one [] c.args.count 0 c.args.bytes.now (read_items one c.args.count c.args.bytes.now) (omega arith) c.in_err-to.ensures.read
    (starts one c.args.count c.args.bytes.now))

pub loop-init : goal.loop-init
loop-init c =
    let one = read_target c.args.accounts in
    record {
      sized = rw c.one-targets.ensures refl;
      so_far = rw c.one-targets.ensures (goes_on one [] c.args.count 0 c.args.bytes.now (c.in_ok-to.to, c.in_ok-to.amount) c.in_ok-to.after.now
          (read_items one c.args.count c.args.bytes.now) (omega arith) c.in_ok-to.ensures.read (starts one c.args.count c.args.bytes.now));
    }

pub returns-in_err-to-2 : goal.returns-in_err-to-2
returns-in_err-to-2 c =
    let one = read_target c.args.accounts in
    rw c.from_residual-in_err-to-2.ensures (ends one c.loop.targets c.args.count c.loop.counter c.loop.rest.now (read_items one c.args.count c.args.bytes.now)
    c.loop-test.true c.in_err-to-2.ensures.read c.loop.invariant.so_far)

pub loop-preserved : goal.loop-preserved
loop-preserved c =
    let one = read_target c.args.accounts in
    record {
      sized = rw (c.push.ensures, length-append) (omega (arith, c.loop.invariant.sized));
      so_far = rw c.push.ensures (goes_on one c.loop.targets c.args.count c.loop.counter c.loop.rest.now (c.in_ok-to-2.to, c.in_ok-to-2.amount) c.in_ok-to-2.after.now
          (read_items one c.args.count c.args.bytes.now) c.loop-test.true c.in_ok-to-2.ensures.read c.loop.invariant.so_far);
    }

pub returns : goal.returns
returns c =
    let one = read_target c.args.accounts in
    is_done one c.loop.targets c.args.count c.loop.counter c.loop.rest.now (read_items one c.args.count c.args.bytes.now) c.loop-test.false c.loop.invariant.so_far
