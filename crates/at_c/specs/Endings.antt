-- How a ledger ends: all callers have given their passes back, the ledger is closed, and its report is made.
use Rattle.std.specs.Prelude.{◌≡◌, ◌^◌, ◌<◌, ℕ, List, length, All}
use Rattle.at_c.specs.Prelude.{Legal, Whole, last_state, balance_of, Line, balance_after, BoardTerms, AreNamesOf, NameList, calls_in, AreTimed, CallTimes, IsLinearizable, Coherent, journal_lines, journal_order, Receipt, AreAccountedFor, ClosedTerms, HasAllLogs, KeepsNotes, PassTerms, IsPrinted, report_text}
use Rattle.at_c.specs.Given.{AreReceipts}

-- a ledger with the names of its book, all its passes and the receipts of all calls
pub record GatheredTerms : Type 0 where
  pub ledger : BoardTerms
  pub names : NameList
  pub passes : List PassTerms
  pub receipts : List (List Receipt)

-- each pass is there, in order, with the receipts of its calls
pub record IsGathered (g : GatheredTerms) : Type 0 where
  pub named : AreNamesOf g.ledger.book g.names
  pub accounted : AreAccountedFor g.ledger g.passes g.receipts
  pub are : All (AreReceipts (length g.ledger.book.accounts)) g.receipts

-- a closed ledger with the names of its book
pub record EndedTerms : Type 0 where
  pub closed : ClosedTerms
  pub names : NameList

-- the names are the book's, and the receipts are of calls on its accounts
pub record IsEnded (e : EndedTerms) : Type 0 where
  pub named : AreNamesOf e.closed.book e.names
  pub are : All (AreReceipts (length e.closed.book.accounts)) e.closed.closing.receipts

-- this very ledger was closed, with these passes and the receipts of all their calls
pub record EndsAs (g : GatheredTerms) (e : EndedTerms) : Type 0 where
  pub accounted : AreAccountedFor g.ledger g.passes g.receipts
  pub ledger_is : e.closed.ledger ≡ g.ledger
  pub book_is : e.closed.book ≡ g.ledger.book
  pub names_are : e.names ≡ g.names
  pub receipts_are : e.closed.closing.receipts ≡ g.receipts
  pub passes_are : e.closed.passes ≡ g.passes
  pub logs : HasAllLogs g.passes e.closed
  pub coherent : Coherent e.closed.book e.closed.closing
  pub after_notes : KeepsNotes e.closed

-- the same with its report
pub record ReportedTerms : Type 0 where
  pub ended : EndedTerms
  pub text : List ℕ

-- the text is the report of the closed ledger, and of no other lines: of all its calls, in one order in which the ledger answers each as
-- it was answered. For all times by which no call is behind one that began after it had ended, some order of these lines is legal and has each
-- call that had ended before another began before it
pub record IsReportOfClosed (closed : ClosedTerms) (names : NameList) (text : List ℕ) : Type 0 where
  pub text_is : text ≡ report_text closed.book names (journal_lines closed.closing)
  pub spells : (others : List Line) → length others < 2 ^ 64 → All (IsPrinted closed.book) (journal_lines closed.closing)
      → All (IsPrinted closed.book) others → text ≡ report_text closed.book names others → journal_lines closed.closing ≡ others
  pub whole : Whole (calls_in closed.closing) (journal_lines closed.closing)
  pub legal : Legal closed.book (journal_lines closed.closing)
  pub balances : (a : ℕ) → a < length closed.book.accounts →
      balance_of (last_state closed.book (journal_lines closed.closing)) a ≡ balance_after closed.book (journal_order closed.closing) a
  pub linearizable : (times : CallTimes) → AreTimed closed.closing times
      → IsLinearizable closed.book (calls_in closed.closing) times (journal_lines closed.closing)
