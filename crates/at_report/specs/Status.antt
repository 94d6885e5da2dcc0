-- The exit status of each answer.
use Rattle.std.specs.Prelude.{ℕ}
use Rattle.at_report.specs.declared.status.Status.{Status}
use Rattle.at_report.specs.declared.status.Status.TheVariants.{Done, Usage, BadBook, BadPayments, ReadFault, WriteFault, NoMemory, TooLong, BadSchedule, BadOrder, BadMessages, NotLegal, TooManyOrders}

-- the exit status
abbrev pub code_of : Status → ℕ
code_of Done = 0
code_of (Usage fault) = 2
code_of (BadBook at why) = 3
code_of (BadPayments process at why) = 4
code_of (ReadFault file) = 5
code_of WriteFault = 6
code_of NoMemory = 7
code_of (TooLong file) = 8
code_of (BadSchedule at why) = 9
code_of (BadOrder at why) = 10
code_of (BadMessages process at why) = 11
code_of (NotLegal line expected) = 12
code_of TooManyOrders = 13
