-- Lines of printed texts, word by word.
use Rattle.std.specs.Prelude.{◌≡◌, ℕ, ◌<◌, List, [], ◌∷◌, ◌++◌, codes, decimal, flat_map}
use Rattle.at_report.specs.Prelude.{join_with_byte, TargetPair, Call, Transfer, Read, Pay, Reply, Done, Short, NotOwner, Full, Balance, Line, NameList, account_name, process_name}
use Rattle.at_report.specs.declared.line_at.LineAt.{LineAt}

-- a word of a text, and the words of a line
abbrev pub Word : Type 0
Word = List ℕ

abbrev pub Words : Type 0
Words = List Word

-- each byte of the word is above a space
abbrev pub IsWord : Word → Type 0
IsWord [] = Unit {0}
IsWord (c ∷ cs) = (32 < c) × IsWord cs

-- the text begins with the word and a space
abbrev pub IsFirstWord : Word → List ℕ → Type 0
IsFirstWord word text = (rest : List ℕ) × (text ≡ word ++ 32 ∷ rest)

-- the words parted by one space each, and a newline
abbrev pub line_text : Words → List ℕ
line_text words = join_with_byte 32 words ++ 10 ∷ []

-- the words that follow another on its line, each after a space
abbrev pub spaced : Words → List ℕ
spaced words = flat_map (λ word. 32 ∷ word) words

-- the lines, one after another
abbrev pub lines_text : List Words → List ℕ
lines_text lines = flat_map line_text lines

-- the words of a pay-out's targets: the account and the amount of each
abbrev pub targets_words : NameList → List TargetPair → Words
targets_words names targets = flat_map (λ t. account_name names t.0 ∷ decimal t.1 ∷ []) targets

-- the words of a call, beside these names
abbrev pub call_words : NameList → Call → Words
call_words names (Transfer from to amount) =
    codes "transfer" ∷ account_name names from ∷ account_name names to ∷ decimal amount ∷ []
call_words names (Read account) = codes "read" ∷ account_name names account ∷ []
call_words names (Pay from targets) =
    codes "pay" ∷ account_name names from ∷ targets_words names targets

-- the word of a reply
abbrev pub reply_word : Reply → Word
reply_word Done = codes "done"
reply_word Short = codes "short"
reply_word NotOwner = codes "not-owner"
reply_word Full = codes "full"
reply_word (Balance n) = decimal n

-- the words of a journal's line: who asked, which of its calls this is, the call, and the reply
abbrev pub journal_words : NameList → Line → Words
journal_words names l =
    process_name names l.process ∷ decimal l.number ∷ (call_words names l.call ++ reply_word l.reply ∷ [])

-- a line, wherever its call stands
abbrev pub line_shown : LineAt → Line
line_shown l = record { process = l.process; number = l.number; call = l.call.now; reply = l.reply }
