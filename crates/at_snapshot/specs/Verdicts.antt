-- What a whole collect says, by those before it.
use Rattle.std.specs.Prelude.{◌≡◌, ◌≢◌, ℕ, ◌-◌, List, length, slice_index, Option, Some, None}
use Rattle.at_snapshot.specs.Prelude.{Knowledge, publication_at, publications_of}
use Rattle.at_snapshot.specs.declared.collects.Collects.{Collects}
use Rattle.at_snapshot.specs.declared.collects.Verdict.{Verdict}
use Rattle.at_snapshot.specs.declared.collects.Verdict.TheVariants.{Lent, Repeated, Undecided}
use Rattle.at_snapshot.specs.declared.scan.Turn.{Turn}
use Rattle.at_snapshot.specs.declared.scan.Turn.TheVariants.{Clean, Borrowed, Again}
use Rattle.at_snapshot.specs.Turns.{HasRisen, IsLeastRisen}

-- each of the collects before has as many counts
abbrev pub AreAsLong : Option Collects → List ℕ → Type 0
AreAsLong None now = Unit {0}
AreAsLong (Some c) now = (length c.first ≡ length now) × (length c.last ≡ length now)

-- by the collects before it: it equals the last one; or it doesn't, and the least other process that has risen by two lends its
-- view; or no other process has
abbrev pub IsVerdictBy : Collects → ℕ → List ℕ → Verdict → Type 0
IsVerdictBy c process now Repeated = c.last ≡ now
IsVerdictBy c process now (Lent p) = (c.last ≢ now) × IsLeastRisen process c.first now p
IsVerdictBy c process now Undecided = (c.last ≢ now) × ((p : ℕ) → ¬ HasRisen process c.first now p)

-- the first collect says nothing. What a whole collect says by those before it: one more is needed, or it equals the last one, or another
-- process's last view serves
abbrev pub IsVerdictOn : Option Collects → ℕ → List ℕ → Verdict → Type 0
IsVerdictOn None process now verdict = verdict ≡ Undecided
IsVerdictOn (Some c) process now verdict = IsVerdictBy c process now verdict

-- what a scan's turn answers by what its collect says: the view that is lent is that of the last record counted of its process
abbrev pub answer_of : Verdict → Knowledge → List ℕ → Turn
answer_of Repeated v now = Clean now
answer_of (Lent p) v now = Borrowed (publication_at (publications_of p v.seen) (slice_index now p - 1)).view
answer_of Undecided v now = Again
