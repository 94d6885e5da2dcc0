-- The table of the calls, and the journal.
use Rattle.std.specs.Prelude.{ℕ, ◌+◌, List, [], ◌∷◌, ◌++◌, Option, None, Some, codes, decimal, flat_map}
use Rattle.at_pages.specs.Prelude.{most_exchanges, most_steps, NameList, process_name, call_fields, BookTerms, Call, Line, Reply, Words, journal_words, line_text, reply_field}
use Rattle.at_pages.specs.Bars.{spanned_call}
use Rattle.at_pages.specs.declared.spans.Span.{Span}

-- a cell for each word
abbrev pub cells_text : Words → List ℕ
cells_text words = flat_map (λ word. codes "<td>" ++ word ++ codes "</td>") words

-- what is called, the account that it names first, and the call's kind
abbrev pub call_cells : BookTerms → NameList → ℕ → Option Call → Words
call_cells b names process None = []
call_cells b names process (Some call) = call_fields b names process call

-- the most steps and exchanges of a call that was answered so, when it counted so many records anew
abbrev pub bound_words : BookTerms → Call → ℕ → Reply → Words
bound_words b call new reply = decimal (most_steps b call reply new) ∷ decimal (most_exchanges b call reply) ∷ []

abbrev pub bound_cells_of : BookTerms → Call → ℕ → Option Reply → Words
bound_cells_of b call new None = []
bound_cells_of b call new (Some reply) = bound_words b call new reply

abbrev pub bound_cells : BookTerms → Option Call → ℕ → Option Reply → Words
bound_cells b None new reply = []
bound_cells b (Some call) new reply = bound_cells_of b call new reply

-- what was counted of the call: its steps, its exchanges, and the records of others that it loads from their first word on
abbrev pub count_cells : Span → Words
count_cells s = decimal s.steps ∷ decimal s.exchanges ∷ decimal s.new_records ∷ []

-- whose call it is, and which of its calls; what it is; what it was answered; what was counted of it, and the most that may be
abbrev pub row_words : BookTerms → NameList → List (List Call) → Span → Words
row_words b names files s =
    process_name names s.process ∷ decimal (s.number + 1)
    ∷ (call_cells b names s.process (spanned_call files s) ++ reply_field s.reply
    ∷ (count_cells s ++ bound_cells b (spanned_call files s) s.new_records s.reply))

-- the row of a call in the table
abbrev pub row_text : BookTerms → NameList → List (List Call) → Span → List ℕ
row_text b names files s = codes "<tr>" ++ cells_text (row_words b names files s) ++ codes "</tr>\n"

-- the rows of all calls
abbrev pub rows_text : BookTerms → NameList → List (List Call) → List Span → List ℕ
rows_text b names files spans = flat_map (row_text b names files) spans

-- a line of the journal, as the report has it
abbrev pub item_text : NameList → Line → List ℕ
item_text names l = codes "<li>" ++ line_text (journal_words names l) ++ codes "</li>\n"

abbrev pub items_text : NameList → List Line → List ℕ
items_text names lines = flat_map (item_text names) lines
