use Rattle.std.proofs.Common.{◌≡◌, ℕ, ◌≤◌, Vec, Global, length, get_or, map}
use Rattle.at_log.proofs.Prelude.{Record}
use Rattle.at_log.proofs.FilledLogs.{AreLogs}
use Rattle.at_log.proofs.closed_board.closing_of.Given as goal

-- so many logs are read, and the other lists are as they were
abbrev pub invariant-loop-p : goal.invariant-loop-p
invariant-loop-p l = record {
  count : length l.rooms.items ≡ length l.fn.rooms.items;
  logs : AreLogs l.end (map (λ v. v.items) l.rooms.items) l.p;
  rest : (k : ℕ) (d : Vec Record Global) → l.p ≤ k → get_or l.rooms.items k d ≡ get_or l.fn.rooms.items k d;
}
