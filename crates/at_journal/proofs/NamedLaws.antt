-- The publications that the numbers of records name.
use Rattle.std.proofs.Common.{◌≡◌, ℕ, ◌<◌, List, length, get_or, sym, ap, ◌∙◌, arith}
use Rattle.at_journal.proofs.Prelude.{get_or-map, length-map, Publication, publication_at, no_publication, ClosingTerms, log_of, log_published, published_by, Record, own_log, AreRecords, no_number, published_in, Numbered}

-- the publications that numbers name are of their processes
pub process-published_in : (c : ClosingTerms) (order : List Numbered) (m : ℕ) → AreRecords c order → m < length order
    → (publication_at (published_in c order) m).process ≡ (get_or order m no_number).process
process-published_in c order m records within =
    let one = get_or order m no_number in
    ap (λ (x : Publication). x.process) (get_or-map (λ (x : Numbered). publication_at (log_published c x.process) x.number) order m no_number no_publication within)
    ∙ own_log c one.process one.number (omega (arith, (records m no_number within).1, length-map (log_of c one.process) (published_by one.process)))

-- there are as many
pub length-published_in : (c : ClosingTerms) (order : List Numbered) (list : List Publication) → published_in c order ≡ list → length order ≡ length list
length-published_in c order list are =
    sym (length-map order (λ (x : Numbered). publication_at (log_published c x.process) x.number)) ∙ ap length are

-- and say what their records say
pub entry-published_in : (c : ClosingTerms) (order : List Numbered) (m : ℕ) (list : List Publication) (log : List Record) (d : Record) → published_in c order ≡ list
    → AreRecords c order → m < length order → log ≡ log_of c (get_or order m no_number).process
    → (publication_at list m).entry ≡ (get_or log (get_or order m no_number).number d).entry
entry-published_in c order m list log d are records within log_is =
    let one = get_or order m no_number in
    let inside : one.number < length (log_of c one.process) = (records m no_number within).1 in
    ap (λ xs. (publication_at xs m).entry) (sym are)
    ∙ (ap (λ (x : Publication). x.entry) (get_or-map (λ (x : Numbered). publication_at (log_published c x.process) x.number) order m no_number no_publication within)
    ∙ (ap (λ (x : Publication). x.entry) (get_or-map (published_by one.process) (log_of c one.process) one.number d no_publication inside)
    ∙ ap (λ (l : List Record). (get_or l one.number d).entry) (sym log_is)))
