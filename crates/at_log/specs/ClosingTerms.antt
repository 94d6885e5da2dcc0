-- A closing as plain data.
use Rattle.std.specs.Prelude.{ℕ, List, [], length, map, slice_index_or}
use Rattle.at_log.specs.Prelude.{Publication}
use Rattle.at_log.specs.declared.record.Record.{Record}
use Rattle.at_log.specs.declared.receipt.Receipt.{Receipt}

-- the records and the receipts of each process
pub record ClosingTerms : Type 0 where
  pub logs : List (List Record)
  pub receipts : List (List Receipt)

-- the records of a process
abbrev pub log_of : ClosingTerms → ℕ → List Record
log_of c process = slice_index_or c.logs process []

-- its receipts
abbrev pub receipts_of : ClosingTerms → ℕ → List Receipt
receipts_of c process = slice_index_or c.receipts process []

-- a record as its process's publication
abbrev pub published_by : ℕ → Record → Publication
published_by process x = record { process = process; view = x.view; entry = x.entry }

-- the publications of a process
abbrev pub log_published : ClosingTerms → ℕ → List Publication
log_published c process = map (published_by process) (log_of c process)

-- the lengths of all logs
abbrev pub log_lengths : ClosingTerms → List ℕ
log_lengths c = map length c.logs
