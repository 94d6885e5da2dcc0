-- The journal of `ledger` as a value: what is entered for each line, and what each transaction posts.
use Rattle.std.specs.Prelude.{ℕ, List, [], ◌∷◌, ◌++◌, length, map, Option, None, Some}
use Rattle.at_tables.specs.Prelude.{range_with_len, BookTerms, account_of, TargetPair, amount_of, Call, Transfer, Read, Pay, Line, Reply, Done, Balance, LedgerState, balance_of, last_state}
use Rattle.at_tables.specs.declared.posting.Amount.{Amount}
use Rattle.at_tables.specs.declared.posting.Amount.TheVariants.{Plus, Minus}

-- an account of the book gets or gives up an amount, and then has the balance that is asserted, if one is; or `equity:openings`, without
-- an amount, takes what the other postings of its transaction leave
pub data Posting : Type 0 where
  Posts : ℕ → Amount → Option ℕ → Posting
  TakesRest : Posting

-- what a transaction is of: the openings, the call of a line, or the last balances
pub data Title : Type 0 where
  Openings : Title
  CallOf : Line → Title
  Balances : Title

pub record Transaction : Type 0 where
  pub title : Title
  pub postings : List Posting

-- what is entered: a transaction, or a line as a comment
pub data JournalEntry : Type 0 where
  Enters : Transaction → JournalEntry
  Comments : Line → JournalEntry

-- an account gets an amount; it gets nothing, and has this balance
abbrev pub credit : ℕ → ℕ → Posting
credit account amount = Posts account (Plus amount) None

abbrev pub assertion : ℕ → ℕ → Posting
assertion account balance = Posts account (Plus 0) (Some balance)

-- what each target gets
abbrev pub target_credits : List TargetPair → List Posting
target_credits targets = map (λ t. credit t.0 t.1) targets

-- a payment, by its reply: the source gives up the sum
abbrev pub paid : ℕ → List TargetPair → Reply → Option (List Posting)
paid from targets Done = Some (Posts from (Minus (amount_of targets)) None ∷ target_credits targets)
paid from targets reply = None

-- a read, by its reply
abbrev pub balance_read : ℕ → Reply → Option (List Posting)
balance_read account (Balance n) = Some (assertion account n ∷ [])
balance_read account reply = None

-- a call, by its reply
abbrev pub posted : Call → Reply → Option (List Posting)
posted (Transfer from to amount) reply = paid from ((to, amount) ∷ []) reply
posted (Read account) reply = balance_read account reply
posted (Pay from targets) reply = paid from targets reply

-- a line of which nothing is posted is a comment
abbrev pub entry_with : Line → Option (List Posting) → JournalEntry
entry_with l None = Comments l
entry_with l (Some postings) = Enters (record { title = CallOf l; postings = postings })

abbrev pub entry_of : Line → JournalEntry
entry_of l = entry_with l (posted l.call l.reply)

-- what each account opens with
abbrev pub opening_credits : BookTerms → List Posting
opening_credits b = map (λ account. credit account (account_of b account).opening) (range_with_len 0 (length b.accounts))

-- each account has its balance of this state
abbrev pub assertions : LedgerState → List Posting
assertions s = map (λ account. assertion account (balance_of s account)) (range_with_len 0 (length s.book.accounts))

abbrev pub first_transaction : BookTerms → Transaction
first_transaction b = record { title = Openings; postings = opening_credits b ++ TakesRest ∷ [] }

abbrev pub last_transaction : LedgerState → Transaction
last_transaction s = record { title = Balances; postings = assertions s }

-- the openings, then each line, and at the end the last balances
abbrev pub entries_of : BookTerms → List Line → List JournalEntry
entries_of b lines =
    Enters (first_transaction b) ∷ (map entry_of lines ++ Enters (last_transaction (last_state b lines)) ∷ [])
