-- The second line of the refusal of a file, or of how many files there are: its word, and what was expected, for a person.
use Rattle.std.specs.Prelude.{ℕ, ◌-◌, ◌==◌, ◌||◌, List, [], ◌∷◌, ◌++◌, Option, Some, None, length, map, drop, codes, decimal, nat_lt, if◌then◌else◌}
use Rattle.at_report.specs.Prelude.{BookError, NoProcess, TooManyProcesses, NoAccount, TooManyAccounts, OwnerOutOfRange, OwnersNotRising, TooManyOwners, RoomOutOfRange, RoundsOverLimit, TotalOverLimit, BookWhy, PaymentsWhy, ScheduleWhy, OrderWhy, MessagesWhy}
use Rattle.at_files.specs.declared.book_fault.BookWhy.TheVariants as book
use Rattle.at_files.specs.declared.payments_fault.PaymentsWhy.TheVariants as payments
use Rattle.at_files.specs.declared.schedule.ScheduleWhy.TheVariants as schedule
use Rattle.at_files.specs.declared.deliveries.OrderWhy.TheVariants as order
use Rattle.at_files.specs.declared.messages.MessagesWhy.TheVariants as messages
use Rattle.at_report.specs.ReportLines.{line_bytes}
use Rattle.at_report.specs.declared.report_line.ReportLine.{ReportLine}
use Rattle.at_report.specs.declared.status.Status.{Status}
use Rattle.at_report.specs.declared.status.UsageFault.TheVariants as usage
use Rattle.at_report.specs.declared.status.Status.TheVariants.{Usage, BadBook, BadPayments, ReadFault, TooLong, BadSchedule, BadOrder, BadMessages, NotLegal}

-- what the record of this number is in a book
abbrev pub book_shape_advice : ℕ → List ℕ
book_shape_advice number =
    if number == 1 then codes "a book begins with book,1 (accounts are numbers) or book,2 (accounts have names)"
    else if number == 2 then codes "the second record is processes and their number, as processes,2; in a book,2 their names, as processes,ann,bob"
    else if number == 3 then codes "the third record is limits and two numbers, of payments and of requests, as limits,100,20"
    else codes "an account has four fields, parted by commas, as account,0,500,0 or in a book,2 account,joint,300,ann bob; without owners it ends with a comma"

-- what was expected in place of a fault of a limit of a book
abbrev pub limit_advice : BookError → List ℕ
limit_advice NoProcess = codes "a book has at least one process, as processes,1 or in a book,2 processes,ann"
limit_advice TooManyProcesses = codes "a book has at most 16 processes"
limit_advice NoAccount = codes "behind the limits there is at least one account, as account,0,500,0 or in a book,2 account,joint,300,ann bob"
limit_advice TooManyAccounts = codes "a book has at most 1024 accounts"
limit_advice (OwnerOutOfRange account) = codes "an owner is the number of a process, from 0 (of two processes 0 or 1); a process more in the second record needs a payment file more"
limit_advice (OwnersNotRising account) = codes "owners stand in the order of the processes, each once, with one space between two"
limit_advice (TooManyOwners account) = codes "an account has at most 8 owners: leave some out"
limit_advice RoomOutOfRange = codes "the first limit is from 1 to 4096, the second from 1 to 1024: take the most where you want none"
limit_advice (RoundsOverLimit account) = codes "the second limit times the owners of all shared accounts is at most 8192: make that limit smaller"
limit_advice (TotalOverLimit account) = codes "all openings together are at most 18446744073709551615"

-- what was expected in place of a fault of a book
abbrev pub book_advice : ℕ → BookWhy → List ℕ
book_advice number book.Version = codes "the first record is book,1 (accounts are numbers) or book,2 (accounts have names)"
book_advice number book.Shape = book_shape_advice number
book_advice number book.Number = codes "a number is digits alone, at most 18446744073709551615: no sign, point, space or leading zero (12.50 is 1250 where the whole book counts hundredths); names of accounts and owners need a book,2"
book_advice number book.AccountOrder = codes "accounts are numbered in their order: 0 in the fourth record, then 1, 2 and so on"
book_advice number (book.Book e) = limit_advice e
book_advice number book.Name = codes "a name is 1 to 16 small letters, digits and -, and begins with a letter, as ann or bob-2; the processes of a book,2 have names too, as processes,ann,bob"
book_advice number book.NameTwice = codes "another one has this name already: each process has a name of its own, and so has each account"
book_advice number book.UnknownOwner = codes "an owner is a name of the second record, with one space between two; whoever isn't a process there is added to it, and has a payment file too"

-- what was expected in place of a fault of a payment file
abbrev pub payments_advice : PaymentsWhy → List ℕ
payments_advice payments.Shape = codes "a call is transfer,FROM,TO,AMOUNT or read,ACCOUNT, beside a book,2 also pay,FROM and one to four pairs TO,AMOUNT; commas part the fields, and there is no head, no comment and no open quote"
payments_advice payments.Number = codes "an AMOUNT is digits alone, at most 18446744073709551615: no sign, point, space or leading zero (12.50 is 1250 where the whole book counts hundredths); beside a book,1 accounts are numbers too"
payments_advice payments.UnknownAccount = codes "an account is written as in the book (beside a book,1 its number, from 0), and the one that pays comes first: transfer,FROM,TO,AMOUNT"
payments_advice payments.TooManyCalls = codes "a payment file has at most 16384 calls, and beside a schedule at most 64"
payments_advice payments.Process = codes "its first record names another process than the one whose file stands here: give the files in the order of the book's second record, or mend this one"

-- what was expected in place of a fault of a schedule
abbrev pub schedule_advice : ScheduleWhy → List ℕ
schedule_advice schedule.TooManyTurns = codes "a schedule has at most 1000000 turns"
schedule_advice schedule.Shape = codes "a turn is the number of one process and nothing else, as 0"
schedule_advice schedule.Number = codes "a process is its number here, digits alone: 0 is the first one, also beside a book,2"
schedule_advice schedule.UnknownProcess = codes "processes are numbered from 0 (of two processes 0 or 1)"

-- what was expected in place of a fault of a file of deliveries
abbrev pub order_advice : OrderWhy → List ℕ
order_advice order.TooManyDeliveries = codes "there are at most 65536 deliveries"
order_advice order.Shape = codes "a delivery is three numbers: who is given it, whose message it is, and which, as 1,0,0"
order_advice order.Number = codes "each of the three is a number, digits alone: no sign, space or leading zero, also beside a book,2"
order_advice order.UnknownProcess = codes "who is given it and whose message it is are processes, numbered from 0 (of two processes 0 or 1)"
order_advice order.UnknownMessage = codes "messages of a process are numbered from 0, and its file has none of this number"

-- what was expected in place of a fault of a message file
abbrev pub messages_advice : MessagesWhy → List ℕ
messages_advice messages.TooManyMessages = codes "a message file has at most 256 messages"
messages_advice messages.Shape = codes "a message is send,FROM,TO,AMOUNT and then a number for each process, as send,0,1,60,0,0 with two processes"
messages_advice messages.Number = codes "behind send stand numbers, digits alone: no sign, point, space or leading zero (write 12.50 as 1250), also beside a book,2"
messages_advice messages.UnknownAccount = codes "an account is its number here, counted from 0 in the order of the book"
messages_advice messages.DepsOutOfRange = codes "the numbers behind the amount are at most 256"

-- a byte of a word as it is shown: for a control a question mark
abbrev pub shown_byte : ℕ → ℕ
shown_byte byte = if nat_lt byte 32 || (byte == 127) then 63 else byte

-- a word as it is shown: of a long one its last 200 bytes
abbrev pub word_shown : List ℕ → List ℕ
word_shown word =
    if nat_lt 200 (length word) then codes "..." ++ map shown_byte (drop (length word - 200) word)
    else map shown_byte word

-- the line about the file of this word
abbrev pub advice_of : List ℕ → List ℕ → List ℕ
advice_of word advice = codes "  " ++ word_shown word ++ codes ": " ++ advice ++ 10 ∷ []

-- which line of the file it is about, and the line about that line
abbrev pub advice_place : List ℕ → ℕ → List ℕ
advice_place word line = codes "  " ++ word_shown word ++ codes ", line " ++ decimal line ++ codes ": "

abbrev pub advice_at : List ℕ → ℕ → List ℕ → List ℕ
advice_at word line advice = advice_place word line ++ advice ++ 10 ∷ []

-- what was expected in place of a wrong line of a report: that line, where one is known
abbrev pub expected_advice : Option ReportLine → List ℕ
expected_advice (Some line) = codes "expected: " ++ line_bytes line
expected_advice None = codes "no run of these files prints this line here, or the report ends too early"

-- the second line of a refusal, whose file has this word, where it is one of a file
abbrev pub advice_line : List ℕ → Status → List ℕ
advice_line word (BadBook at why) = advice_at word at.line (book_advice at.number why)
advice_line word (BadPayments process at why) = advice_at word at.line (payments_advice why)
advice_line word (BadSchedule at why) = advice_at word at.line (schedule_advice why)
advice_line word (BadOrder at why) = advice_at word at.line (order_advice why)
advice_line word (BadMessages process at why) = advice_at word at.line (messages_advice why)
advice_line word (NotLegal line expected) = advice_at word line (expected_advice expected)
advice_line word (Usage (usage.Files wanted given)) = advice_of word (codes "its second record has the processes: beside it stands one file for each of them, in that order")
advice_line word (ReadFault file) = advice_of word (codes "not read")
advice_line word (TooLong file) = advice_of word (codes "a file has at most 8388608 bytes")
advice_line word _ = []
