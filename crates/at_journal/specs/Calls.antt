-- The calls of a closing, by process and number.
use Rattle.std.specs.Prelude.{◌<◌, List, length, map, All}
use Rattle.at_journal.specs.Prelude.{Call, Line, ClosingTerms, receipts_of, line_of, calls_of, receipt_at}
use Rattle.at_journal.specs.declared.keyed.CallAt.{CallAt}

-- the calls of each process, in their order
abbrev pub calls_in : ClosingTerms → List (List Call)
calls_in c = map calls_of c.receipts

-- each is a call of the closing
abbrev pub AreCallsOf : ClosingTerms → List CallAt → Type 0
AreCallsOf c calls = All (λ x. x.process < length c.receipts × x.number < length (receipts_of c x.process)) calls

-- a call of the closing as a line
abbrev pub line_at : ClosingTerms → CallAt → Line
line_at c x = line_of x.process x.number (receipt_at (receipts_of c x.process) x.number)
