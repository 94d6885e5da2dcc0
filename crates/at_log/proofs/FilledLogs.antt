-- The logs that are read from a closed board, one after another.
use Rattle.std.proofs.Common.{◌≡◌, ℕ, ◌+◌, ◌<◌, List, [], length, get_or, map, set, ap, ◌∙◌, arith, below_more}
use Rattle.at_log.proofs.Prelude.{get_or-set_other, get_or-set_same, publications_of, EndTerms, IsEnd, SeatTerms, published_by, Record}

-- the log of a process of a closed board
abbrev pub IsLogOf : EndTerms → ℕ → List Record → Type 0
IsLogOf e p log = (seats : List SeatTerms) (ended : IsEnd e seats) → map (published_by p) log ≡ publications_of p ended.state.published

-- the first p logs are read
abbrev pub AreLogs : EndTerms → List (List Record) → ℕ → Type 0
AreLogs e logs p = (k : ℕ) → k < p → IsLogOf e k (get_or logs k [])

pub AreLogs-more : (e : EndTerms) (logs : List (List Record)) (p : ℕ) (log : List Record) → p < length logs → AreLogs e logs p → IsLogOf e p log
    → AreLogs e (set logs p log) (p + 1)
AreLogs-more e logs p log inside logs_are log_is =
    below_more (λ k. IsLogOf e k (get_or (set logs p log) k [])) p
    (λ k below seats ended. ap (map (published_by k)) (get_or-set_other logs p k log [] (omega arith)) ∙ logs_are k below seats ended)
    (λ seats ended. ap (map (published_by p)) (get_or-set_same logs p log [] inside) ∙ log_is seats ended)
