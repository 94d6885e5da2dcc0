-- What the words of each command ask for.
use Rattle.std.specs.Prelude.{ℕ, ⊤, ◌&&◌, List, [], ◌∷◌, map, length, codes, bytes_eq, nat_le, Option, Some, None, option_map, if◌then◌else◌, String, string_bytes}
use Rattle.at_commands.specs.Prelude.{Global, number_of, is_within, Word}
use Rattle.at_commands.specs.Limits.{MayMake, MayAgreeOn, largest_value, least_values, most_made_calls, most_made_processes, most_values}
use Rattle.at_commands.specs.declared.asked.Asked as program
use Rattle.at_commands.specs.declared.asked.Asked.TheVariants as given
use Rattle.at_commands.specs.declared.numbers.Making.{Making}
use Rattle.at_commands.specs.declared.words.Form as words
use Rattle.at_commands.specs.declared.words.FurtherForm as further
use Rattle.at_commands.specs.declared.words.FormCommand.{FormCommand}
use Rattle.at_commands.specs.declared.words.FormCommand.TheVariants.{Run, Check, Kinds, Needs, Orders, Costs, Ledger}
use Rattle.at_commands.specs.declared.words.FurtherCommand.{FurtherCommand}
use Rattle.at_commands.specs.declared.words.FurtherCommand.TheVariants.{Replay, Trace, Show, Verify, Deliver}

-- the bytes of each word
abbrev pub words_of : List (String Global) → List Word
words_of words = map string_bytes words

-- what the words have to be
abbrev pub usage : List ℕ
usage = codes "usage: run BOOK PAY... | check BOOK PAY... | kinds BOOK PAY... | needs BOOK PAY... | orders BOOK PAY... | costs BOOK PAY... | ledger BOOK PAY... | make NUMBER PROCESSES CALLS | replay BOOK SCHEDULE PAY... | trace BOOK SCHEDULE PAY... | show BOOK SCHEDULE PAY... | verify BOOK REPORT PAY... | agree VALUE... | deliver BOOK ORDER MSG..."

-- the names of the book, and of the files of the processes in their order
pub record Form : Type 0 where
  pub book : Word
  pub files : List Word

-- the names of the book, of the file that is read last, and of the files of the processes in their order
pub record FurtherForm : Type 0 where
  pub book : Word
  pub further : Word
  pub files : List Word

-- what words ask for: the files of a command, or its numbers
pub data Wanted : Type 0 where
  Files : FormCommand → Form → Wanted
  Further : FurtherCommand → FurtherForm → Wanted
  Make : Making → Wanted
  Agree : List ℕ → Wanted

-- of a command that reads a book and the files of the processes: the book, and any number of files
abbrev pub form_wanted : FormCommand → List Word → Option Wanted
form_wanted command (book ∷ files) = Some (Files command (record { book = book; files = files }))
form_wanted command words = None

-- of a command that reads one further file: the book, the further file, and any number of files
abbrev pub further_wanted : FurtherCommand → List Word → Option Wanted
further_wanted command (book ∷ further ∷ files) = Some (Further command (record { book = book; further = further; files = files }))
further_wanted command words = None

-- a number from 1 to `most`
abbrev pub within : ℕ → Option ℕ → Option ℕ
within most (Some n) = if is_within most n then Some n else None
within most None = None

-- what `make` makes of three numbers
abbrev pub making_of : Option ℕ → Option ℕ → Option ℕ → Option Making
making_of (Some first) (Some processes) (Some calls) = Some (record { first = first; processes = processes; calls = calls })
making_of (Some first) (Some processes) None = None
making_of (Some first) None calls = None
making_of None processes calls = None

-- of `make`: any number, the number of processes, and that of the calls of each
abbrev pub make_wanted : List Word → Option Wanted
make_wanted (first ∷ processes ∷ calls ∷ []) =
    option_map Make (making_of (number_of first) (within most_made_processes (number_of processes)) (within most_made_calls (number_of calls)))
make_wanted words = None

-- a number that a process can propose
abbrev pub small : Option ℕ → Option ℕ
small (Some n) = if nat_le n largest_value then Some n else None
small None = None

-- a value, and those after it
abbrev pub before_values : Option ℕ → Option (List ℕ) → Option (List ℕ)
before_values (Some value) (Some values) = Some (value ∷ values)
before_values (Some value) None = None
before_values None values = None

-- the values that the words are, if each is one
abbrev pub values_named : List Word → Option (List ℕ)
values_named [] = Some []
values_named (word ∷ words) = before_values (small (number_of word)) (values_named words)

-- of `agree`: the values that are proposed, one for each process
abbrev pub agree_wanted : List Word → Option Wanted
agree_wanted words =
    if nat_le least_values (length words) && nat_le (length words) most_values then option_map Agree (values_named words) else None

-- what the words ask for: the name of a command, and what the words after it ask of that command
abbrev pub wanted_of : List Word → Option Wanted
wanted_of (word ∷ words) =
    if bytes_eq word (codes "run") then form_wanted Run words
    else if bytes_eq word (codes "check") then form_wanted Check words
    else if bytes_eq word (codes "kinds") then form_wanted Kinds words
    else if bytes_eq word (codes "needs") then form_wanted Needs words
    else if bytes_eq word (codes "orders") then form_wanted Orders words
    else if bytes_eq word (codes "costs") then form_wanted Costs words
    else if bytes_eq word (codes "ledger") then form_wanted Ledger words
    else if bytes_eq word (codes "replay") then further_wanted Replay words
    else if bytes_eq word (codes "trace") then further_wanted Trace words
    else if bytes_eq word (codes "show") then further_wanted Show words
    else if bytes_eq word (codes "verify") then further_wanted Verify words
    else if bytes_eq word (codes "deliver") then further_wanted Deliver words
    else if bytes_eq word (codes "make") then make_wanted words
    else if bytes_eq word (codes "agree") then agree_wanted words
    else None
wanted_of [] = None

-- the numbers among the words are within their limits
abbrev pub IsWithinLimits : Wanted → Type 0
IsWithinLimits (Make m) = MayMake m.processes m.calls
IsWithinLimits (Agree values) = MayAgreeOn values
IsWithinLimits wanted = ⊤

-- the same words, as the program holds them
abbrev pub form_shown : words.Form → Form
form_shown form = record { book = form.book.now; files = words_of form.files.now }

abbrev pub further_shown : further.FurtherForm → FurtherForm
further_shown form = record { book = form.book.now; further = form.further.now; files = words_of form.files.now }

abbrev pub asked_shown : program.Asked → Wanted
asked_shown (given.Files command form) = Files command (form_shown form)
asked_shown (given.Further command form) = Further command (further_shown form)
asked_shown (given.Make making) = Make making
asked_shown (given.Agree values) = Agree values.items
