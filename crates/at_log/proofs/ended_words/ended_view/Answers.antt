use Rattle.std.proofs.Common.{arith}
use Rattle.at_log.proofs.Laws.EndedRecords.{IsEndedView-IsCounted, small-ended_word}
use Rattle.at_log.proofs.ended_words.ended_view.Goals as goal

pub overflow_cast-count : goal.overflow_cast-count
overflow_cast-count c =
    omega (
      arith,
      c.record_word-count.ensures,
      small-ended_word c.args.end.now c.args.p c.args.i c.loop-q.q c.requires.published c.requires.book (omega (arith, c.requires.process, c.requires.processes))
          c.requires.record (omega (arith, c.loop-q-test.true, c.requires.processes)),
    )

pub set-requires-clause-small : goal.set-requires-clause-small
set-requires-clause-small c =
    omega (
      arith,
      c.record_word-count.ensures,
      small-ended_word c.args.end.now c.args.p c.args.i c.loop-q.q c.requires.published c.requires.book (omega (arith, c.requires.process, c.requires.processes))
          c.requires.record (omega (arith, c.loop-q-test.true, c.requires.processes)),
    )

pub returns : goal.returns
returns c =
    IsEndedView-IsCounted c.args.end.now c.args.p c.args.i c.loop-q.view c.loop-q.q c.requires.book (omega (arith, c.requires.process, c.requires.processes))
    c.requires.record c.loop-q.invariant.sized (omega (arith, c.loop-q-test.false, c.loop-q.auto.q-end, c.requires.processes)) c.loop-q.invariant.counted
