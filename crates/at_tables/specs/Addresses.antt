-- The addresses of the board's words, as they are printed.
use Rattle.std.specs.Prelude.{ℕ, [], ◌∷◌, ◌++◌, codes, decimal, length, nat_lt, if◌then◌else◌}
use Rattle.at_tables.specs.Prelude.{BoardWord, Announced, Cell, Length, Record, Request, BookTerms, NameList, account_name, process_name, Word, spaced}

-- a process and an account by their names, and by their numbers where they have none
abbrev pub process_word : BookTerms → NameList → ℕ → Word
process_word b names p = if nat_lt p b.processes then process_name names p else decimal p

abbrev pub account_word : BookTerms → NameList → ℕ → Word
account_word b names a = if nat_lt a (length b.accounts) then account_name names a else decimal a

-- the parts of an address, with one space between. What the word is of, and then its parts, processes and accounts by their names, or by their
-- numbers where they had none
abbrev pub address_text : BookTerms → NameList → BoardWord → Word
address_text b names (Length p) = codes "length" ++ spaced (process_word b names p ∷ [])
address_text b names (Record p i j) = codes "record" ++ spaced (process_word b names p ∷ decimal i ∷ decimal j ∷ [])
address_text b names (Announced a slot) = codes "announced" ++ spaced (account_word b names a ∷ decimal slot ∷ [])
address_text b names (Request a slot i j) = codes "request" ++ spaced (account_word b names a ∷ decimal slot ∷ decimal i ∷ decimal j ∷ [])
address_text b names (Cell a round) = codes "cell" ++ spaced (account_word b names a ∷ decimal round ∷ [])
