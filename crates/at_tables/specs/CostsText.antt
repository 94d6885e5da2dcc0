-- The text of `costs`: a record for each call, by process and then in file order.
use Rattle.std.specs.Prelude.{◌≡◌, ℕ, ◌+◌, ◌<◌, List, [], ◌∷◌, ◌++◌, All, codes, decimal, flat_map, length, map, slice_index_or}
use Rattle.at_tables.specs.Prelude.{range_with_len, BoardTerms, BookTerms, IsCallOn, NameList, process_name, receipt_at, Receipt, Words, reply_word, record_text, records_text, PassTerms, CostTerms, TakeCalls}
use Rattle.at_tables.specs.CallFields.{call_fields}
use Rattle.at_tables.specs.Bounds.{most_exchanges, most_steps}

-- the names of the fields
abbrev pub costs_head : Words
costs_head =
    codes "process" ∷ codes "line" ∷ codes "call" ∷ codes "account" ∷ codes "kind" ∷ codes "reply" ∷ codes "steps" ∷ codes "exchanges"
    ∷ codes "new" ∷ codes "most_steps" ∷ codes "most_exchanges" ∷ []

-- the fields of a call of the process, with its number among that process's calls
abbrev pub cost_fields : BookTerms → NameList → ℕ → ℕ → Receipt → CostTerms → Words
cost_fields b names process number r cost =
    process_name names process ∷ decimal number
    ∷ (call_fields b names process r.call ++ reply_word r.reply ∷ decimal cost.steps ∷ decimal cost.exchanges ∷ decimal cost.new_records
    ∷ decimal (most_steps b r.call r.reply cost.new_records) ∷ decimal (most_exchanges b r.call r.reply) ∷ [])

-- a cost of the list
abbrev pub cost_at : List CostTerms → ℕ → CostTerms
cost_at costs i = slice_index_or costs i (record { steps = 0; exchanges = 0; new_records = 0 })

-- the records of a process, in the order of its calls
abbrev pub process_costs : BookTerms → NameList → ℕ → List Receipt → List CostTerms → List Words
process_costs b names process receipts costs =
    map (λ i. cost_fields b names process (i + 1) (receipt_at receipts i) (cost_at costs i)) (range_with_len 0 (length receipts))

-- the records of all processes, in order
abbrev pub costs_records : BookTerms → NameList → List (List Receipt) → List (List CostTerms) → ℕ → List Words
costs_records b names receipts costs processes =
    flat_map (λ p. process_costs b names p (slice_index_or receipts p []) (slice_index_or costs p [])) (range_with_len 0 processes)

-- the whole text. The names of the fields, and a CSV record for each call, by process and then in order
abbrev pub costs_text : BookTerms → NameList → List (List Receipt) → List (List CostTerms) → List ℕ
costs_text b names receipts costs = record_text costs_head ++ records_text (costs_records b names receipts costs b.processes)

-- there are the receipts of each process of the book, and a cost for each, by calls that took its pass on a ledger one after another
pub record HaveCosts (b : BookTerms) (receipts : List (List Receipt)) (costs : List (List CostTerms)) : Type 0 where
  pub receipts_count : length receipts ≡ b.processes
  pub costs_count : length costs ≡ b.processes
  pub known : (p : ℕ) → p < b.processes → All (λ (r : Receipt). IsCallOn (length b.accounts) r.call) (slice_index_or receipts p [])
  pub same : (p : ℕ) → p < b.processes → length (slice_index_or costs p []) ≡ length (slice_index_or receipts p [])
  pub taken : (p : ℕ) → p < b.processes
      → (ledger : BoardTerms) × (before : PassTerms) × (after : PassTerms) × (ledger.book ≡ b)
      × TakeCalls ledger before (slice_index_or receipts p []) (slice_index_or costs p []) after
