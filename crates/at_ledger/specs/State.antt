-- The sequential ledger: what each call answers and changes.
use Rattle.std.specs.Prelude.{◌≡◌, ℕ, ◌+◌, ◌-◌, ◌*◌, ◌≤◌, Bool, not, ◌&&◌, ◌||◌, ◌==◌, List, [], ◌∷◌, length, map, replicate, sum, All, nat_lt, slice_index, slice_set, if◌then◌else◌}
use Rattle.at_ledger.specs.Account.{is_single, is_shared}
use Rattle.at_ledger.specs.Book.{BookTerms, IsBook, account_of, is_owner, total_of, with_openings}
use Rattle.at_ledger.specs.Call.{TargetPair, amount_of}
use Rattle.at_ledger.specs.declared.call.Call.{Call}
use Rattle.at_ledger.specs.declared.call.Call.TheVariants.{Transfer, Read, Pay}
use Rattle.at_ledger.specs.declared.call.Reply.{Reply}
use Rattle.at_ledger.specs.declared.call.Reply.TheVariants.{Done, Short, NotOwner, Full, Balance}

-- each account's balance, and the room used: by each process on its single accounts, and by each process on each
-- shared account, those of process 0 first
pub record LedgerState : Type 0 where
  pub book : BookTerms
  pub balances : List ℕ
  pub sent : List ℕ
  pub asked : List ℕ

-- what a call does: the state after it, and its reply
pub record Step : Type 0 where
  pub ledger : LedgerState
  pub reply : Reply

-- the openings, and no room used
abbrev pub opening_state : BookTerms → LedgerState
opening_state b = record {
  book = b;
  balances = map (λ t. t.opening) b.accounts;
  sent = replicate b.processes 0;
  asked = replicate (b.processes * length b.accounts) 0;
}

abbrev pub balance_of : LedgerState → ℕ → ℕ
balance_of s account = slice_index s.balances account

abbrev pub sent_of : LedgerState → ℕ → ℕ
sent_of s process = slice_index s.sent process

-- where `asked` has the number of a process and account
abbrev pub asked_position : BookTerms → ℕ → ℕ → ℕ
asked_position b process account = process * length b.accounts + account

abbrev pub asked_of : LedgerState → ℕ → ℕ → ℕ
asked_of s process account = slice_index s.asked (asked_position s.book process account)

-- the process has used all its room at this source
abbrev pub is_full : LedgerState → ℕ → ℕ → Bool
is_full s process source =
    (is_single (account_of s.book source) && (sent_of s process == s.book.own_room))
    || (is_shared (account_of s.book source) && (asked_of s process source == s.book.request_room))

-- one more success on a single account
abbrev pub with_sent : LedgerState → ℕ → LedgerState
with_sent s process = record s { sent = slice_set s.sent process (sent_of s process + 1) }

-- one more request on a shared account
abbrev pub with_asked : LedgerState → ℕ → ℕ → LedgerState
with_asked s process account =
    record s { asked = slice_set s.asked (asked_position s.book process account) (asked_of s process account + 1) }

-- each amount is added to its target, in order
unfoldable pub credited : List ℕ → List TargetPair → List ℕ
credited balances [] = balances
credited balances (t ∷ ts) = credited (slice_set balances t.0 (slice_index balances t.0 + t.1)) ts

-- the sum is taken from the source, and then each amount is added to its target
abbrev pub moved : LedgerState → ℕ → List TargetPair → LedgerState
moved s source targets =
    record s { balances = credited (slice_set s.balances source (balance_of s source - amount_of targets)) targets }

-- a success uses own room where the source is single, and a request where it is shared
abbrev pub counted : LedgerState → ℕ → ℕ → LedgerState
counted s process source =
    if is_shared (account_of s.book source) then with_asked s process source else with_sent s process

abbrev pub after_done : LedgerState → ℕ → ℕ → List TargetPair → LedgerState
after_done s process source targets = counted (moved s source targets) process source

-- a payment short of balance uses a request where the source is shared
abbrev pub after_short : LedgerState → ℕ → ℕ → LedgerState
after_short s process source =
    if is_shared (account_of s.book source) then with_asked s process source else s

-- a pay-out of a process: the first of these cases that applies
abbrev pub pay : LedgerState → ℕ → ℕ → List TargetPair → Step
pay s process source targets =
    if not (is_owner s.book process source) then record { ledger = s; reply = NotOwner }
    else if is_full s process source then record { ledger = s; reply = Full }
    else if nat_lt (balance_of s source) (amount_of targets) then record { ledger = after_short s process source; reply = Short }
    else record { ledger = after_done s process source targets; reply = Done }

-- a call of a process: a read changes nothing, and a transfer is the pay-out with its one target
abbrev pub step : LedgerState → ℕ → Call → Step
step s process (Transfer from to amount) = pay s process from ((to, amount) ∷ [])
step s process (Read account) = record { ledger = s; reply = Balance (balance_of s account) }
step s process (Pay from targets) = pay s process from targets

-- the book of the next ledger, which opens with these balances
abbrev pub carried : LedgerState → BookTerms
carried s = with_openings s.book s.balances

-- what holds of every state that calls can reach
pub record IsLedger (s : LedgerState) : Type 0 where
  pub book : IsBook s.book
  pub balances : length s.balances ≡ length s.book.accounts
  pub sent : length s.sent ≡ s.book.processes
  pub asked : length s.asked ≡ s.book.processes * length s.book.accounts
  pub total : sum s.balances ≡ total_of s.book
  pub sent_room : All (λ n. n ≤ s.book.own_room) s.sent
  pub asked_room : All (λ n. n ≤ s.book.request_room) s.asked
