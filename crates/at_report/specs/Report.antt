-- The report of a run, and the lines of a check, of a verified report and of an agreement.
use Rattle.std.specs.Prelude.{ℕ, ◌<◌, ◌^◌, ⊤, List, [], ◌∷◌, ◌++◌, length, map, codes, decimal, sum}
use Rattle.at_report.specs.Prelude.{range_with_len, BookTerms, LedgerState, balance_of, last_state, IsLineOn, Line, Reply, Balance, HasAmounts, NameList, account_name}
use Rattle.at_report.specs.Lines.{Words, journal_words, line_text, lines_text}

-- how many lines a journal has
abbrev pub heading_words : ℕ → Words
heading_words count = codes "journal" ∷ decimal count ∷ []

-- how many lines there are, and then each
abbrev pub printed_journal : NameList → List Line → List Words
printed_journal names lines = heading_words (length lines) ∷ map (journal_words names) lines

-- the name and the balance of an account
abbrev pub balance_words : NameList → LedgerState → ℕ → Words
balance_words names s account = account_name names account ∷ decimal (balance_of s account) ∷ []

-- the same of each account, in order
abbrev pub balance_lines : NameList → LedgerState → List Words
balance_lines names s = map (balance_words names s) (range_with_len 0 (length s.book.accounts))

-- the audit: how many accounts there are, the balance of each, and their total
abbrev pub audit_lines : NameList → LedgerState → List Words
audit_lines names s =
    (codes "balances" ∷ decimal (length s.book.accounts) ∷ [])
    ∷ (balance_lines names s ++ (codes "total" ∷ decimal (sum s.balances) ∷ []) ∷ [])

-- the journal, and the audit of the state after all its lines
abbrev pub report_text : BookTerms → NameList → List Line → List ℕ
report_text b names lines = lines_text (printed_journal names lines ++ audit_lines names (last_state b lines))

-- how many processes and accounts a book has, and how many calls its files have
abbrev pub checked_line : BookTerms → ℕ → List ℕ
checked_line b calls = line_text (codes "checked" ∷ decimal b.processes ∷ decimal (length b.accounts) ∷ decimal calls ∷ [])

-- of how many lines a report is
abbrev pub verified_line : ℕ → List ℕ
verified_line count = line_text (codes "verified" ∷ decimal count ∷ [])

-- how many values were proposed, and the one that all agreed on
abbrev pub agreed_line : ℕ → ℕ → List ℕ
agreed_line count value = line_text (codes "agreed" ∷ decimal count ∷ decimal value ∷ [])

-- a balance in a reply is a number of 64 bits
abbrev pub HasBalance : Reply → Type 0
HasBalance (Balance n) = n < 2 ^ 64
HasBalance reply = ⊤

-- the line is one of the book's, and its numbers are of 64 bits
pub record IsPrinted (b : BookTerms) (l : Line) : Type 0 where
  pub known : IsLineOn b.processes (length b.accounts) l
  pub number : l.number < 2 ^ 64
  pub amounts : HasAmounts l.call
  pub balance : HasBalance l.reply
