-- The text of `ledger`: its entries in the plain-text format of hledger and ledger-cli.
use Rattle.std.specs.Prelude.{ℕ, List, [], ◌∷◌, ◌++◌, codes, decimal, flat_map, length, Option, None, Some}
use Rattle.at_tables.specs.Prelude.{range_with_len, BookTerms, Line, NameList, account_name, process_name, Word, Words, journal_words, line_text}
use Rattle.at_tables.specs.CallFields.{call_word}
use Rattle.at_tables.specs.Entries.{Posting, Posts, TakesRest, Title, Openings, CallOf, Balances, JournalEntry, Enters, Comments, entries_of}
use Rattle.at_tables.specs.declared.posting.Amount.{Amount}
use Rattle.at_tables.specs.declared.posting.Amount.TheVariants.{Plus, Minus}

-- an amount with its sign, and the balance that is asserted behind it
abbrev pub amount_text : Amount → List ℕ
amount_text (Plus n) = decimal n
amount_text (Minus n) = codes "-" ++ decimal n

abbrev pub asserted_text : Option ℕ → List ℕ
asserted_text None = []
asserted_text (Some balance) = codes " = " ++ decimal balance

-- a posting, in a line of its own
abbrev pub posting_text : NameList → Posting → List ℕ
posting_text names (Posts account amount asserted) =
    codes "    account:" ++ account_name names account ++ codes "  " ++ amount_text amount ++ asserted_text asserted ++ 10 ∷ []
posting_text names TakesRest = codes "    equity:openings\n"

abbrev pub postings_text : NameList → List Posting → List ℕ
postings_text names postings = flat_map (posting_text names) postings

-- the one date of all transactions, whose order is that of the text
abbrev pub entry_date : Word
entry_date = codes "1970-01-01"

-- the words of a title. A call's are who asked, which of its calls this is, and of which form
abbrev pub title_words : NameList → Title → Words
title_words names Openings = codes "openings" ∷ []
title_words names (CallOf l) = process_name names l.process ∷ decimal l.number ∷ call_word l.call ∷ []
title_words names Balances = codes "balances" ∷ []

abbrev pub title_text : NameList → Title → List ℕ
title_text names title = line_text (entry_date ∷ title_words names title)

-- a transaction, or a comment with the words of the report, after an empty line
abbrev pub entry_text : NameList → JournalEntry → List ℕ
entry_text names (Enters t) = 10 ∷ (title_text names t.title ++ postings_text names t.postings)
entry_text names (Comments l) = 10 ∷ (codes "; " ++ line_text (journal_words names l))

-- the declaration of an account, and those of all that are posted to
abbrev pub declaration_text : NameList → ℕ → List ℕ
declaration_text names account = codes "account account:" ++ account_name names account ++ 10 ∷ []

abbrev pub declarations_text : BookTerms → NameList → List ℕ
declarations_text b names =
    flat_map (declaration_text names) (range_with_len 0 (length b.accounts)) ++ codes "account equity:openings\n"

-- entries as they are written
abbrev pub written_text : BookTerms → NameList → List JournalEntry → List ℕ
written_text b names entries = declarations_text b names ++ flat_map (entry_text names) entries

-- the whole text: the entries of these lines, written
abbrev pub ledger_text : BookTerms → NameList → List Line → List ℕ
ledger_text b names lines = written_text b names (entries_of b lines)
