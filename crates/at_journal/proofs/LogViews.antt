-- The views in a process's log.
use Rattle.std.proofs.Common.{◌≡◌, ℕ, ◌<◌, List, length, get_or, sym, ap, ◌∙◌}
use Rattle.at_journal.proofs.Prelude.{get_or-map, Publication, publication_at, no_publication, ClosingTerms, log_of, log_published, published_by, Record, Contains-view, AreNumbered, AreWithin}

view_at : (c : ClosingTerms) (p i : ℕ) (log : List Record) (d : Record) → log ≡ log_of c p → i < length (log_of c p)
    → (get_or log i d).view ≡ (publication_at (log_published c p) i).view
view_at c p i log d is within =
    ap (λ (l : List Record). (get_or l i d).view) is
    ∙ sym (ap (λ (x : Publication). x.view) (get_or-map (published_by p) (log_of c p) i d no_publication within))

-- it has a count for each process
pub length-view : (c : ClosingTerms) (p i : ℕ) (log : List Record) (d : Record) → log ≡ log_of c p → AreWithin c → p < length c.logs
    → i < length (log_of c p) → length (get_or log i d).view ≡ length c.logs
length-view c p i log d is all known within =
    ap length (view_at c p i log d is within) ∙ (all (publication_at (log_published c p) i).view (Contains-view c p i known within)).0

-- and its own is the record's number
pub get_or-view : (c : ClosingTerms) (p i : ℕ) (log : List Record) (d : Record) → log ≡ log_of c p → AreNumbered c
    → i < length (log_of c p) → get_or (get_or log i d).view p 0 ≡ i
get_or-view c p i log d is numbered within =
    ap (λ v. get_or v p 0) (view_at c p i log d is within) ∙ numbered p i within
