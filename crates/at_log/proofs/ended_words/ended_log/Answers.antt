use Rattle.std.proofs.Common.{◌+◌, sym, subst, arith}
use Rattle.at_log.proofs.Laws.EndedRecords.{AreFirstRecords, AreFirstRecords-all, AreFirstRecords-more}
use Rattle.at_log.proofs.ended_words.ended_log.Goals as goal

pub loop-i-preserved : goal.loop-i-preserved
loop-i-preserved c =
    record {
      first = subst (λ log. AreFirstRecords c.args.end.now c.args.p log (c.loop-i.i + 1)) (sym c.push_reserved.ensures.items)
          (AreFirstRecords-more c.args.end.now c.args.p c.loop-i.i c.loop-i.log.items
          (record { entry = c.ended_entry-entry.result; view = c.ended_view-view.result }) (omega (arith, c.requires.process, c.requires.processes))
          (omega (arith, c.loop-i-test.true, c.length-i-end.ensures)) c.loop-i.invariant.first c.ended_entry-entry.ensures c.ended_view-view.ensures);
      filled = omega (arith, c.push_reserved.ensures.len, c.loop-i.invariant.filled);
      room = omega (arith, c.push_reserved.ensures.capacity, c.loop-i.invariant.room);
    }

pub returns : goal.returns
returns c =
    AreFirstRecords-all c.args.end.now c.args.p c.loop-i.i c.loop-i.log.items (omega (arith, c.requires.process, c.requires.processes))
    (omega (arith, c.loop-i-test.false, c.loop-i.auto.i-end, c.length-i-end.ensures)) c.loop-i.invariant.first
