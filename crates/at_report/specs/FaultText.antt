-- The lines of each refusal.
use Rattle.std.specs.Prelude.{ℕ, List, [], ◌∷◌, ◌++◌, codes, decimal}
use Rattle.at_report.specs.Prelude.{BookError, NoProcess, TooManyProcesses, NoAccount, TooManyAccounts, OwnerOutOfRange, OwnersNotRising, TooManyOwners, RoomOutOfRange, RoundsOverLimit, TotalOverLimit, BookWhy, PaymentsWhy, ScheduleWhy, OrderWhy, MessagesWhy}
use Rattle.at_report.specs.Advice.{advice_line}
use Rattle.at_files.specs.declared.book_fault.BookWhy.TheVariants as book
use Rattle.at_files.specs.declared.payments_fault.PaymentsWhy.TheVariants as payments
use Rattle.at_report.specs.declared.status.Status.{Status}
use Rattle.at_report.specs.declared.status.Status.TheVariants.{Done, Usage, BadBook, BadPayments, ReadFault, WriteFault, NoMemory, TooLong, BadSchedule, BadOrder, BadMessages, NotLegal, TooManyOrders}
use Rattle.at_report.specs.declared.status.UsageFault.{UsageFault}
use Rattle.at_report.specs.declared.status.UsageFault.TheVariants as usage
use Rattle.at_files.specs.declared.schedule.ScheduleWhy.TheVariants as schedule
use Rattle.at_files.specs.declared.deliveries.OrderWhy.TheVariants as order
use Rattle.at_files.specs.declared.messages.MessagesWhy.TheVariants as messages

-- why a book breaks a limit
abbrev pub limit_text : BookError → List ℕ
limit_text NoProcess = codes "no process"
limit_text TooManyProcesses = codes "too many processes"
limit_text NoAccount = codes "no account"
limit_text TooManyAccounts = codes "too many accounts"
limit_text (OwnerOutOfRange account) = codes "owner out of range"
limit_text (OwnersNotRising account) = codes "owners not rising"
limit_text (TooManyOwners account) = codes "too many owners"
limit_text RoomOutOfRange = codes "room out of range"
limit_text (RoundsOverLimit account) = codes "rounds over limit"
limit_text (TotalOverLimit account) = codes "total over limit"

-- the cause of a book file's fault
abbrev pub book_cause : BookWhy → List ℕ
book_cause book.Version = codes "version"
book_cause book.Shape = codes "shape"
book_cause book.Number = codes "number"
book_cause book.AccountOrder = codes "account order"
book_cause (book.Book e) = limit_text e
book_cause book.Name = codes "name"
book_cause book.NameTwice = codes "name twice"
book_cause book.UnknownOwner = codes "unknown owner"

-- the cause of a payment file's fault
abbrev pub payments_cause : PaymentsWhy → List ℕ
payments_cause payments.Shape = codes "shape"
payments_cause payments.Number = codes "number"
payments_cause payments.UnknownAccount = codes "unknown account"
payments_cause payments.TooManyCalls = codes "too many calls"
payments_cause payments.Process = codes "process"

-- the cause of a schedule's fault
abbrev pub schedule_cause : ScheduleWhy → List ℕ
schedule_cause schedule.TooManyTurns = codes "too many turns"
schedule_cause schedule.Shape = codes "shape"
schedule_cause schedule.Number = codes "number"
schedule_cause schedule.UnknownProcess = codes "unknown process"

-- the cause of a fault of a file of deliveries
abbrev pub order_cause : OrderWhy → List ℕ
order_cause order.TooManyDeliveries = codes "too many deliveries"
order_cause order.Shape = codes "shape"
order_cause order.Number = codes "number"
order_cause order.UnknownProcess = codes "unknown process"
order_cause order.UnknownMessage = codes "unknown message"

-- the cause of a message file's fault
abbrev pub messages_cause : MessagesWhy → List ℕ
messages_cause messages.TooManyMessages = codes "too many messages"
messages_cause messages.Shape = codes "shape"
messages_cause messages.Number = codes "number"
messages_cause messages.UnknownAccount = codes "unknown account"
messages_cause messages.DepsOutOfRange = codes "deps out of range"

-- the most bytes of a usage
abbrev pub most_usage : ℕ
most_usage = 800

-- what is wrong with the words: they have no form, for which the usage stands, or there are too many files or too few
abbrev pub usage_text : List ℕ → UsageFault → List ℕ
usage_text forms usage.Words = forms
usage_text forms (usage.Files wanted given) = codes "files: wanted " ++ decimal wanted ++ codes ", given " ++ decimal given

-- a fault in a file: its line and cause
abbrev pub line_and_cause : ℕ → List ℕ → List ℕ
line_and_cause line cause = codes ": line " ++ decimal line ++ codes ": " ++ cause

-- what is said of each refusal, and nothing of a run that is done
abbrev pub fault_words : List ℕ → Status → List ℕ
fault_words forms Done = []
fault_words forms (Usage fault) = usage_text forms fault
fault_words forms (BadBook at why) = codes "book" ++ line_and_cause at.number (book_cause why)
fault_words forms (BadPayments process at why) = codes "payments " ++ decimal process ++ line_and_cause at.number (payments_cause why)
fault_words forms (ReadFault file) = codes "read fault: file " ++ decimal file
fault_words forms WriteFault = codes "write fault"
fault_words forms NoMemory = codes "no memory"
fault_words forms (TooLong file) = codes "too long: file " ++ decimal file
fault_words forms (BadSchedule at why) = codes "schedule" ++ line_and_cause at.number (schedule_cause why)
fault_words forms (BadOrder at why) = codes "order" ++ line_and_cause at.number (order_cause why)
fault_words forms (BadMessages process at why) = codes "messages " ++ decimal process ++ line_and_cause at.number (messages_cause why)
fault_words forms (NotLegal line expected) = codes "report" ++ line_and_cause line (codes "not legal")
fault_words forms TooManyOrders = codes "too many orders"

-- the lines of a refusal: what is said of it, and for one of a file, whose word this is, what was expected in it. Nothing for `Done`
abbrev pub fault_lines : List ℕ → List ℕ → Status → List ℕ
fault_lines forms word Done = []
fault_lines forms word status = fault_words forms status ++ 10 ∷ [] ++ advice_line word status
