-- The text of `trace`: a record for each turn, in order.
use Rattle.std.specs.Prelude.{ℕ, ◌+◌, List, [], ◌∷◌, ◌++◌, Option, None, Some, codes, decimal, length, map, take}
use Rattle.at_tables.specs.Prelude.{range_with_len, BoardStep, Exchange, Load, Store, NameList, process_name, BookTerms, Reply, Word, Words, reply_word, record_text, records_text, turn_at, answered_by, TurnMade}
use Rattle.at_tables.specs.Addresses.{address_text}

-- the names of the fields
abbrev pub trace_head : Words
trace_head = codes "turn" ∷ codes "process" ∷ codes "line" ∷ codes "step" ∷ codes "word" ∷ codes "reply" ∷ []

-- what a turn does to a word: nothing where its call is answered without a step
abbrev pub step_word : Option BoardStep → Word
step_word None = codes "none"
step_word (Some (Load word)) = codes "load"
step_word (Some (Store word)) = codes "store"
step_word (Some (Exchange word)) = codes "exchange"

-- and to which
abbrev pub step_address : BookTerms → NameList → Option BoardStep → Word
step_address b names None = []
step_address b names (Some (Load word)) = address_text b names word
step_address b names (Some (Store word)) = address_text b names word
step_address b names (Some (Exchange word)) = address_text b names word

-- the reply of the call that a turn answers
abbrev pub reply_field : Option Reply → Word
reply_field None = []
reply_field (Some reply) = reply_word reply

-- the fields of a turn with this number, of its process's call with that number
abbrev pub turn_fields_at : BookTerms → NameList → ℕ → ℕ → TurnMade → Words
turn_fields_at b names turn line t =
    decimal turn ∷ process_name names t.process ∷ decimal line ∷ step_word t.step ∷ step_address b names t.step ∷ reply_field t.reply ∷ []

-- those of the turn with this number, from 0: it is one of the call that comes next of its process. Its number, its process, the number of its
-- call, its step, the word's address, the reply
abbrev pub turn_fields : BookTerms → NameList → List TurnMade → ℕ → Words
turn_fields b names turns m =
    let t : TurnMade = turn_at turns m in turn_fields_at b names (m + 1) (answered_by t.process (take m turns) + 1) t

-- the records of all turns
abbrev pub trace_records : BookTerms → NameList → List TurnMade → List Words
trace_records b names turns = map (turn_fields b names turns) (range_with_len 0 (length turns))

-- the whole text. The names of the fields, and a CSV record for each turn, in order
abbrev pub trace_text : BookTerms → NameList → List TurnMade → List ℕ
trace_text b names turns = record_text trace_head ++ records_text (trace_records b names turns)
