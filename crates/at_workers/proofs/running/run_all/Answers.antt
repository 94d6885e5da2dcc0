use Rattle.at_workers.proofs.Prelude.{sendable, Ran}
use Rattle.at_workers.proofs.Sharing.{job_send}
use Rattle.at_workers.proofs.Zipped.{AllZip-each}
use Rattle.at_workers.proofs.running.run_all.Goals as goal

pub returns : goal.returns
returns g c =
    AllZip-each (Ran c.args.ledger.now) c.args.jobs.now c.for_each_mut.new.s c.for_each_mut.auto.s
    (λ p d within.
    let made = (c.for_each_mut.ensures p d within).1 in
    rw (← made.argument_is, ← made.left) made.call)

pub for_each_mut-requires-send-T : goal.for_each_mut-requires-send-T
for_each_mut-requires-send-T g c κs = search (sendable, job_send) depth 20
