use Rattle.std.proofs.Common.{◌≡◌, ◌++◌, take}
use Rattle.at_logs.proofs.Prelude.{flat_map, kept_of}
use Rattle.at_logs.specs.Snapshot.{HasBacklogBytes, backlog_bytes}
use Rattle.at_logs.proofs.SavingLaws.{FitFirst}
use Rattle.at_logs.proofs.compact.put_backlogs.Given as goal

abbrev pub invariant-loop-backlog : goal.invariant-loop-backlog
invariant-loop-backlog l = record {
  spelled : l.out.items ≡ l.fn.out.items ++ flat_map backlog_bytes (take l.backlog-index (kept_of l.backlogs));
  fits : FitFirst HasBacklogBytes (kept_of l.backlogs) l.backlog-index;
}
