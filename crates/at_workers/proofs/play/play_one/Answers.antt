use Rattle.std.proofs.Common.{◌≡◌, ◌<◌, length, arith}
use Rattle.at_workers.proofs.Played.{HasPlayed-all, HasPlayed-more, HasPlayed-none}
use Rattle.at_workers.proofs.play.play_one.Goals as goal

pub loop-index-init : goal.loop-index-init
loop-index-init g c = (
  HasPlayed-none c.args.ledger.now c.args.job.now c.requires c.len-index-end.ensures.stands c.len-index-end.ensures.past
      c.len-index-end.ensures.costed,
  c.len-index-end.ensures.count,
)

pub loop-index-preserved : goal.loop-index-preserved
loop-index-preserved g c =
    let more : c.loop-index._index < length c.args.job.now.calls = omega (arith, c.loop-index.invariant.1, c.loop-index-test.true) in (
      HasPlayed-more c.args.ledger.now c.args.job.now c.loop-index.job c.make_next.new.self c.loop-index._index c.loop-index.invariant.0 more
          c.make_next.ensures,
      c.loop-index.invariant.1,
    )

pub returns : goal.returns
returns g c =
    let all : length c.args.job.now.calls ≡ c.loop-index._index =
    omega (arith, c.loop-index.invariant.1, c.loop-index-test.false, c.loop-index.auto._index-end) in
    HasPlayed-all c.args.ledger.now c.args.job.now c.loop-index.job c.loop-index._index c.loop-index.invariant.0 all
