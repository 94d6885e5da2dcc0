use Rattle.std.proofs.Common.{◌≡◌, ◌+◌, [], ◌∷◌, ◌++◌, take, arith}
use Rattle.std.specs.Int.{w32}
use Rattle.at_logs.proofs.Prelude.{length-set, take_all, take_more_set, read_items, read_number}
use Rattle.at_logs.proofs.ReaderLoops.{ends, goes_on, is_done}
use Rattle.at_logs.proofs.reading.counts_of.Goals as goal

pub returns-in_err-count : goal.returns-in_err-count
returns-in_err-count c =
    rw c.from_residual.ensures (ends (read_number w32) (take c.loop-log.log c.loop-log.counts) c.args.logs c.loop-log.log c.loop-log.rest.now
    (read_items (read_number w32) c.args.logs c.args.bytes.now) c.loop-log-test.true c.in_err-count.ensures c.loop-log.invariant.so_far)

pub loop-log-preserved : goal.loop-log-preserved
loop-log-preserved c =
    let log = c.loop-log.log in
    let is = c.loop-log.invariant in
    let more : take (log + 1) c.set.new.self ≡ take log c.loop-log.counts ++ c.in_ok-count.count ∷ [] =
    rw c.set.ensures (take_more_set c.loop-log.counts log c.in_ok-count.count (omega (arith, is.sized, c.loop-log-test.true))) in
    record {
      sized = rw (c.set.ensures, length-set) is.sized;
      so_far = rw more (goes_on (read_number w32) (take log c.loop-log.counts) c.args.logs log c.loop-log.rest.now c.in_ok-count.count c.in_ok-count.after.now
          (read_items (read_number w32) c.args.logs c.args.bytes.now) c.loop-log-test.true c.in_ok-count.ensures is.so_far);
    }

pub returns : goal.returns
returns c =
    let log = c.loop-log.log in
    let all : take log c.loop-log.counts ≡ c.loop-log.counts = take_all log c.loop-log.counts (omega (arith, c.loop-log.invariant.sized, c.loop-log-test.false)) in
    rw (← all) (is_done (read_number w32) (take log c.loop-log.counts) c.args.logs log c.loop-log.rest.now (read_items (read_number w32) c.args.logs c.args.bytes.now)
    c.loop-log-test.false c.loop-log.invariant.so_far)
