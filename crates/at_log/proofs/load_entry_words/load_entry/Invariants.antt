use Rattle.std.proofs.Common.{◌≡◌, ℕ, ◌<◌, get_or, length}
use Rattle.at_log.proofs.Prelude.{stepped, IsRecordWord, RECORD_WORDS}
use Rattle.at_log.proofs.load_entry_words.load_entry.Given as goal

-- so many words are loaded, a step for each
abbrev pub invariant-loop-j : goal.invariant-loop-j
invariant-loop-j l = record {
  same : l.seat ≡ stepped l.fn.seat l.j;
  sized : length l.words ≡ RECORD_WORDS;
  loaded : (k : ℕ) → k < l.j → IsRecordWord l.fn.seat.knows l.p l.i k (get_or l.words k 0);
}
