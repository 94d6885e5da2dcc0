-- The text of `orders`: a record for each call with its replies, by process and then in file order.
use Rattle.std.specs.Prelude.{ℕ, ◌+◌, ◌==◌, Bool, true, false, List, [], ◌∷◌, ◌++◌, codes, decimal, flat_map, length, map, slice_index_or, Option, Some, None, if◌then◌else◌}
use Rattle.at_tables.specs.Prelude.{join_with_byte, range_with_len, BookTerms, Call, Transfer, Read, Pay, NameList, process_name, no_replies, Range, Replies, Word, Words, record_text, records_text}
use Rattle.at_tables.specs.CallFields.{call_fields}

-- the names of the fields
abbrev pub orders_head : Words
orders_head = codes "process" ∷ codes "line" ∷ codes "call" ∷ codes "account" ∷ codes "kind" ∷ codes "replies" ∷ []

-- a word, if it is so
abbrev pub word_if : Bool → Word → Words
word_if true word = word ∷ []
word_if false word = []

-- which of the four replies a payment has
abbrev pub payment_words : Replies → Words
payment_words r =
    word_if r.done (codes "done") ++ word_if r.short (codes "short") ++ word_if r.full (codes "full") ++ word_if r.not_owner (codes "not-owner")

-- the least and the greatest balance, or the one that there is
abbrev pub range_words : Range → Words
range_words range = if range.least == range.greatest then decimal range.least ∷ [] else decimal range.least ∷ decimal range.greatest ∷ []

-- the same, if there is a balance
abbrev pub balances_words : Option Range → Words
balances_words None = []
balances_words (Some range) = range_words range

-- the replies of a call: of a read its balances, and else those of a payment. Of a payment those of the four that it has, of a read its least
-- and greatest balance, or the one that there is
abbrev pub replies_words : Call → Replies → Words
replies_words (Transfer from to amount) r = payment_words r
replies_words (Read account) r = balances_words r.balances
replies_words (Pay from targets) r = payment_words r

-- the fields of a call of the process, with its number among that process's calls: the last one has its replies, a space between each two
abbrev pub replies_fields : BookTerms → NameList → ℕ → ℕ → Call → Replies → Words
replies_fields b names process number call r =
    process_name names process ∷ decimal number ∷ (call_fields b names process call ++ join_with_byte 32 (replies_words call r) ∷ [])

-- a call of the list
abbrev pub call_at : List Call → ℕ → Call
call_at calls i = slice_index_or calls i (Read 0)

-- the replies of a call of the list
abbrev pub replies_at : List Replies → ℕ → Replies
replies_at answers i = slice_index_or answers i no_replies

-- the records of a process, in the order of its file
abbrev pub process_replies : BookTerms → NameList → ℕ → List Call → List Replies → List Words
process_replies b names process calls answers =
    map (λ i. replies_fields b names process (i + 1) (call_at calls i) (replies_at answers i)) (range_with_len 0 (length calls))

-- the records of the first processes, in order
abbrev pub replies_records : BookTerms → NameList → List (List Call) → List (List Replies) → ℕ → List Words
replies_records b names files answers processes =
    flat_map (λ p. process_replies b names p (slice_index_or files p []) (slice_index_or answers p [])) (range_with_len 0 processes)

-- the whole text. The names of the fields, and a CSV record for each call with its replies, by process and then in file order
abbrev pub orders_text : BookTerms → NameList → List (List Call) → List (List Replies) → List ℕ
orders_text b names files answers = record_text orders_head ++ records_text (replies_records b names files answers b.processes)
