use Rattle.std.proofs.Common.{◌≡◌, ℕ, ◌<◌, get_or, length}
use Rattle.at_log.proofs.Prelude.{RECORD_WORDS}
use Rattle.at_log.proofs.Laws.EndedRecords.{ended_word}
use Rattle.at_log.proofs.ended_words.ended_entry.Given as goal

-- so many words are read
abbrev pub invariant-loop-j : goal.invariant-loop-j
invariant-loop-j l = record {
  sized : length l.words ≡ RECORD_WORDS;
  read : (k : ℕ) → k < l.j → get_or l.words k 0 ≡ ended_word l.end l.p l.i k;
}
