-- The word of the file that a refusal is of, and the lines that a sink takes of it.
use Rattle.std.specs.Prelude.{◌≡◌, ℕ, ◌-◌, ◌==◌, ◌⊎◌, List, [], ◌++◌, slice_index_or, Option, Some, if◌then◌else◌}
use Rattle.at_commands.specs.Prelude.{Rose, TakesPrefix, fault_lines, Status, BadBook, BadMessages, BadPayments, ReadFault, TooLong, Usage, Word}
use Rattle.at_commands.specs.Words.{Wanted, usage}
use Rattle.at_commands.specs.Words.Wanted.{Files, Further}

-- the word of the file with this number: the book, the processes' files, and last the further file
abbrev pub word_numbered : Word → List Word → Word → ℕ → Word
word_numbered book files further number = if number == 0 then book else slice_index_or files (number - 1) further

-- the word of the file that is refused so: the book's also where there are too many files or too few, and the further file's where it is
-- neither the book nor a process's
abbrev pub word_refused : Word → List Word → Word → Status → Word
word_refused book files further (BadBook at why) = book
word_refused book files further (Usage fault) = book
word_refused book files further (BadPayments process at why) = slice_index_or files process further
word_refused book files further (BadMessages process at why) = slice_index_or files process further
word_refused book files further (ReadFault file) = word_numbered book files further file
word_refused book files further (TooLong file) = word_numbered book files further file
word_refused book files further _ = further

-- the same among the words that ask for this; words that name no file have none
abbrev pub file_word : Option Wanted → Status → Word
file_word (Some (Files command form)) refusal = word_refused form.book form.files [] refusal
file_word (Some (Further command form)) refusal = word_refused form.book form.files form.further refusal
file_word _ refusal = []

-- a sink has taken the lines of a refusal of what these words ask, or a prefix of them where a fault of the sink was counted
abbrev pub TookLines : Option Wanted → Status → ℕ → ℕ → List ℕ → List ℕ → Type 0
TookLines wanted refusal faults faults_now before after =
    (after ≡ before ++ fault_lines usage (file_word wanted refusal) refusal)
    ⊎ (Rose faults faults_now × TakesPrefix before after (fault_lines usage (file_word wanted refusal) refusal))
