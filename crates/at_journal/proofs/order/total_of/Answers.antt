use Rattle.at_journal.proofs.Prelude.{common_steps, length-map, sum_by_more, log_lengths, get_or-log_lengths}
use Rattle.std.proofs.Common.{arith, ◌<◌, length}
use Rattle.at_journal.proofs.order.total_of.Goals as goal

pub loop-p-preserved : goal.loop-p-preserved
loop-p-preserved c =
    let closing = c.args.closing.now in
    let p = c.loop-p.p in
    let known : p < length closing.logs = omega (arith, c.processes-p-end.ensures.logs) in (
      omega (
        arith,
        sum_by_more (λ n. n) (log_lengths closing) p 0 (omega (arith, known, length-map closing.logs length)),
        get_or-log_lengths closing p known,
        c.log_len-total.ensures.length,
        c.loop-p.invariant.0,
      ),
      omega (arith, c.log_len-total.ensures.small, c.loop-p.invariant.1),
    )

pub returns-clause-total : goal.returns-clause-total
returns-clause-total c = grind (arith, common_steps)
