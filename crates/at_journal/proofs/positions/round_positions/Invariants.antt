use Rattle.std.proofs.Common.{length, map, take}
use Rattle.at_journal.proofs.Prelude.{journal_order, HasRoundPositions}
use Rattle.at_journal.proofs.positions.round_positions.Given as goal

abbrev pub invariant-loop-position : goal.invariant-loop-position
invariant-loop-position l =
    HasRoundPositions (length l.book.accounts) (take l.position (journal_order l.closing)) (journal_order l.closing) (map (λ v. v.items) l.starts.items)
