-- What a whole collect says, and what a scan's turn answers by it.
use Rattle.std.proofs.Common.{ℕ, ◌<◌, List, refl, sym, subst, Option, Some, None}
use Rattle.at_snapshot.proofs.Prelude.{BookTerms, Knowledge, Collects, Verdict, Lent, Repeated, Undecided, Turn, IsCollect, collect_of, IsScanOf, SeesOwnRecords, IsSnapshot, OnCounts, IsAnswer, IsVerdict, IsVerdictBy, IsVerdictOn, answer_of}
use Rattle.at_snapshot.proofs.Laws.Snapshots.{OnCounts-IsVerdict}

-- what a turn answers by what its collect says is what a scan has to answer
IsVerdict-IsVerdictBy : (c : Collects) (v : Knowledge) (now : List ℕ) (verdict : Verdict) → IsVerdictBy c v.first now verdict
    → IsVerdict c v now (answer_of verdict v now)
IsVerdict-IsVerdictBy c v now Repeated is = record { equal = is; counts_are = refl }
IsVerdict-IsVerdictBy c v now (Lent p) is = record { differs = is.0; process = p; least = is.1; counts_are = refl }
IsVerdict-IsVerdictBy c v now Undecided is = record { differs = is.0; none = is.1 }

pub IsAnswer-IsVerdictOn : (start mark : Knowledge) (cs : Option Collects) (v : Knowledge) (verdict : Verdict)
    → IsVerdictOn cs v.first (collect_of v) verdict → IsAnswer (record { start = start; mark = mark; collects = cs }) v (answer_of verdict v (collect_of v))
IsAnswer-IsVerdictOn start mark None v Repeated is = absurd (cc)
IsAnswer-IsVerdictOn start mark None v (Lent p) is = absurd (cc)
IsAnswer-IsVerdictOn start mark None v Undecided is = refl
IsAnswer-IsVerdictOn start mark (Some c) v verdict is = IsVerdict-IsVerdictBy c v (collect_of v) verdict is

-- the counts of an answer are a snapshot
pub OnCounts-IsAnswer : (b : BookTerms) (start mark : Knowledge) (cs : Option Collects) (v w : Knowledge) (turn : Turn) → SeesOwnRecords start
    → IsScanOf b (record { start = start; mark = mark; collects = cs }) v → v.first < b.processes → IsCollect b v w
    → IsAnswer (record { start = start; mark = mark; collects = cs }) w turn → OnCounts turn (IsSnapshot b start w)
OnCounts-IsAnswer b start mark None v w turn own so known told answer = subst (λ (t : Turn). OnCounts t (IsSnapshot b start w)) (sym answer) tt
OnCounts-IsAnswer b start mark (Some c) v w turn own so known told answer =
    OnCounts-IsVerdict b (record { start = start; mark = mark; collects = Some c }) c v w turn own so known refl told answer
