use Rattle.std.proofs.Common.{◌≡◌, ◌≤◌, length}
use Rattle.at_log.proofs.Prelude.{vec_capacity, vec_len, records_of}
use Rattle.at_log.proofs.Laws.EndedRecords.{AreFirstRecords}
use Rattle.at_log.proofs.ended_words.ended_log.Given as goal

-- so many records are there, and room for the others
abbrev pub invariant-loop-i : goal.invariant-loop-i
invariant-loop-i l = record {
  first : AreFirstRecords l.end l.p l.log.items l.i;
  filled : vec_len l.log ≡ l.i;
  room : length (records_of l.end l.p) ≤ vec_capacity l.log;
}
