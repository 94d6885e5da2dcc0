-- The text of `follow`.
use Rattle.std.specs.Prelude.{ℕ, ◌+◌, List, [], ◌∷◌, ◌++◌, length, map, codes, decimal, slice_index, slice_index_or, sum}
use Rattle.at_follow.specs.Prelude.{BookTerms, NameList, NodeTerms, Pay, Told, Word, Words, account_name, account_of, call_words, encode_lower, filter, is_shared, lines_text, logs_of, range_with_len, shown, tail_of}
use Rattle.at_follow.specs.declared.following.EntryFault.{EntryFault}
use Rattle.at_follow.specs.declared.following.EntryWhy.{EntryWhy}
use Rattle.at_follow.specs.declared.following.EntryWhy.TheVariants.{NotAnEntry, Forked}
use Rattle.at_follow.specs.declared.following.Followed.{Followed}

-- the word of a shared account's log
abbrev pub shared_word : NameList → ℕ → Word
shared_word names account = codes "account:" ++ account_name names account

-- the first so many accounts, without those that aren't shared
abbrev pub shared_below : BookTerms → ℕ → List ℕ
shared_below b count = filter (λ account. is_shared (account_of b account)) (range_with_len 0 count)

-- the words of the logs: the names of the processes, and then a word for each shared account, in book order
abbrev pub log_words : BookTerms → NameList → Words
log_words b names = names.processes ++ map (shared_word names) (shared_below b (length b.accounts))

abbrev pub log_word : BookTerms → NameList → ℕ → Word
log_word b names log = slice_index_or (log_words b names) log []

-- a told message: its log, its number there from 1, the payment, and its reference in hex
abbrev pub told_words : BookTerms → NameList → Told → Words
told_words b names t =
    log_word b names t.log ∷ decimal (t.number + 1) ∷ (call_words names (Pay t.from t.targets) ++ encode_lower t.reference ∷ [])

-- a log: how many of its messages are validated, and how many of its places were read
abbrev pub log_line : BookTerms → NameList → NodeTerms → ℕ → Words
log_line b names n log =
    log_word b names log ∷ decimal (slice_index n.core.validated log) ∷ decimal (tail_of (shown n) log).entries ∷ []

abbrev pub why_word : EntryWhy → Word
why_word NotAnEntry = codes "not-an-entry"
why_word Forked = codes "forked"

-- a fault: its log, its place there from 1, and which
abbrev pub entry_fault_words : BookTerms → NameList → EntryFault → Words
entry_fault_words b names x = log_word b names x.log ∷ decimal (x.place + 1) ∷ why_word x.why ∷ []

-- the name and the balance of an account
abbrev pub node_account_words : NameList → NodeTerms → ℕ → Words
node_account_words names n account = account_name names account ∷ decimal (slice_index n.core.balances account) ∷ []

-- a word with how many lines follow, and these
abbrev pub section : Word → List Words → List Words
section word lines = (word ∷ decimal (length lines) ∷ []) ∷ lines

abbrev pub follow_lines : BookTerms → NameList → Followed → List Words
follow_lines b names f =
    section (codes "journal") (map (told_words b names) f.told.items)
    ++ section (codes "logs") (map (log_line b names f.node) (range_with_len 0 (logs_of b).logs))
    ++ section (codes "passed") (map (entry_fault_words b names) f.faults.items)
    ++ section (codes "balances") (map (node_account_words names f.node) (range_with_len 0 (length b.accounts)))
    ++ (codes "total" ∷ decimal (sum f.node.core.balances) ∷ []) ∷ []

abbrev pub follow_text : BookTerms → NameList → Followed → List ℕ
follow_text b names f = lines_text (follow_lines b names f)
