-- How many steps a snapshot can have.
use Rattle.std.proofs.Common.{◌≤◌, arith}
use Rattle.at_machines.proofs.Prelude.{mul-le, BookTerms, IsBegun, snapshot_steps}

-- the most that any book allows
pub snapshot_steps-le : (b : BookTerms) → IsBegun b → snapshot_steps b.processes ≤ 288
snapshot_steps-le b begun = omega (arith, mul-le b.processes b.processes 16 16 begun.few_processes begun.few_processes, begun.few_processes)
