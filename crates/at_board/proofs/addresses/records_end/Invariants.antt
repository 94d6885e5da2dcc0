use Rattle.std.proofs.Common.{◌≡◌, ◌<◌, ◌^◌}
use Rattle.at_board.proofs.Prelude.{index_of, record_word}
use Rattle.at_board.proofs.addresses.records_end.Given as goal

abbrev pub invariant-loop-p : goal.invariant-loop-p
invariant-loop-p l = (l.end ≡ index_of l.book (record_word l.p 0 0)) × (l.end < 2 ^ 32)
