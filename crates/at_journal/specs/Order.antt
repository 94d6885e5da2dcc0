-- The records of a closing by their processes and numbers, in the order of the publications.
use Rattle.std.specs.Prelude.{◌≡◌, ℕ, ◌⊎◌, ◌-◌, ◌<◌, List, length, map, slice_index, All, Contains}
use Rattle.at_journal.specs.Prelude.{flat_map, range_with_len, Covers, publication_at, Publication, ClosingTerms, log_lengths, log_of, log_published, held_cuts}
use Rattle.at_journal.specs.declared.order.Numbered.{Numbered}

-- each held cut has a count for each process, and the lengths of the logs cover it
abbrev pub AreWithin : ClosingTerms → Type 0
AreWithin c = (view : List ℕ) → Contains (held_cuts c) view → length view ≡ length c.logs × Covers (log_lengths c) view

-- of two held cuts one covers the other
abbrev pub AreNested : ClosingTerms → Type 0
AreNested c = (view other : List ℕ) → Contains (held_cuts c) view → Contains (held_cuts c) other → Covers view other ⊎ Covers other view

-- the view of each record has how many records its process published before it
abbrev pub AreNumbered : ClosingTerms → Type 0
AreNumbered c = (p i : ℕ) → i < length (log_of c p) → slice_index (publication_at (log_published c p) i).view p ≡ i

-- a number that no list holds
abbrev pub no_number : Numbered
no_number = record { process = 0; number = 0 }

-- the records of a process from one number up to another
abbrev pub records_of_process : ℕ → ℕ → ℕ → List Numbered
records_of_process process from to = map (λ i. record { process = process; number = i }) (range_with_len from (to - from))

-- those of so many processes, one process after another
abbrev pub records_between : ℕ → (ℕ → ℕ) → (ℕ → ℕ) → List Numbered
records_between n from to = flat_map (λ p. records_of_process p (from p) (to p)) (range_with_len 0 n)

-- the publications that these numbers name
abbrev pub published_in : ClosingTerms → List Numbered → List Publication
published_in c all = map (λ x. publication_at (log_published c x.process) x.number) all

-- each is the number of a record
abbrev pub AreRecords : ClosingTerms → List Numbered → Type 0
AreRecords c all = All (λ x. x.process < length c.logs × x.number < length (log_of c x.process)) all
