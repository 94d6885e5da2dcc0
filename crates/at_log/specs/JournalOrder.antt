-- The order of a closing's publications, and of its lines.
use Rattle.std.specs.Prelude.{ℕ, ◌+◌, ◌*◌, ◌==◌, List, length, map, filter, min, nat_lt, slice_index, sum}
use Rattle.at_log.specs.Prelude.{flat_map, fold, range_with_len, Line, Publication, publication_at, place}
use Rattle.at_log.specs.declared.receipt.Receipt.{Receipt}
use Rattle.at_log.specs.ClosingTerms.{ClosingTerms, log_lengths, log_of, log_published, receipts_of}
use Rattle.at_log.specs.HeldCuts.{held_cuts}
use Rattle.at_log.specs.Receipts.{receipt_at}
use Rattle.at_log.specs.Told.{keys_of}

-- the key of a publication: the least place of a held cut that counts it
abbrev pub publication_key : ClosingTerms → ℕ → ℕ → ℕ
publication_key c process number =
    fold min (sum (log_lengths c)) (map place (filter (λ view. nat_lt number (slice_index view process)) (held_cuts c)))

-- the numbers of the publications of a process that have this key
abbrev pub numbers_at : ClosingTerms → ℕ → ℕ → List ℕ
numbers_at c key process = filter (λ number. publication_key c process number == key) (range_with_len 0 (length (log_of c process)))

-- the publications of this key, process by process
abbrev pub published_at : ClosingTerms → ℕ → List Publication
published_at c key =
    flat_map (λ p. map (publication_at (log_published c p)) (numbers_at c key p)) (range_with_len 0 (length c.logs))

-- all publications by key, then process, then number
unfoldable pub journal_order : ClosingTerms → List Publication
journal_order c = flat_map (published_at c) (range_with_len 0 (sum (log_lengths c) + 1))

-- the key of a call
abbrev pub line_key : ClosingTerms → ℕ → ℕ → ℕ
line_key c process i = slice_index (keys_of process (journal_order c) (receipts_of c process)) i

-- a receipt as a line: calls are numbered from 1
abbrev pub line_of : ℕ → ℕ → Receipt → Line
line_of process i r = record { process = process; number = i + 1; call = r.call; reply = r.reply }

-- the lines of a process that have this key, in the order of its calls
abbrev pub process_lines_at : ClosingTerms → ℕ → ℕ → List Line
process_lines_at c key process =
    map (λ i. line_of process i (receipt_at (receipts_of c process) i))
    (filter (λ i. line_key c process i == key) (range_with_len 0 (length (receipts_of c process))))

-- all receipts as lines by key, then process, then number
unfoldable pub journal_lines : ClosingTerms → List Line
journal_lines c =
    flat_map (λ key. flat_map (process_lines_at c key) (range_with_len 0 (length c.receipts)))
    (range_with_len 0 (2 * sum (log_lengths c) + 1))
